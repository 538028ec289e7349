-- What plain actions take of annotations, for an annotated program: assertions, and the sets that wraps fix.
use Rattle.std.proofs.Common.{◌≡◌, ℕ, zero, suc, Bool, true, false, ◌&&◌, if◌then◌else◌, List, [], ◌∷◌, map, length, Option, Some, None, slice_get, pos, refl, ap, sym, ◌∙◌, subst}
use Rattle.machine_laws.proofs.Owns.{value_reference}
use Rattle.std.specs.Prelude.{slice_index_or}
use Rattle.object_types.specs.declared.references.Ref.{Ref}
use Rattle.object_types.specs.declared.values.Value.{Value}
use Rattle.object_types.specs.declared.values.Value.TheVariants.{Ref as Refers}
use Rattle.object_types.specs.References.{is_thread, is_reference, null as null_ref}
use Rattle.object_types.specs.Values.{referent}
use Rattle.object_types.specs.Heap.{Heap, Record, put, wrapped, writable}
use Rattle.object_types.specs.Sets.{every, is_in, set_of}
use Rattle.method.specs.declared.program.DeclaredType.{DeclaredType}
use Rattle.method.specs.declared.program.DeclaredType.TheVariants.{Integer, Pointer, Object, Claim}
use Rattle.method.specs.declared.program.Spec.{Spec}
use Rattle.method.specs.declared.program.StructInfo.{StructInfo}
use Rattle.method.specs.declared.program.VariableInfo.{VariableInfo}
use Rattle.method.specs.declared.program.FunctionInfo.{FunctionInfo}
use Rattle.method.specs.declared.program.Program.{Program}
use Rattle.method.specs.Tables.{local, struct_of, has_fixed_owns}
use Rattle.method.specs.SpecValue.{holds, value}
use Rattle.method.specs.Invariants.{inv_scene}
use Rattle.method.specs.Machine.{fit_parameters}
use Rattle.method.specs.Typing.{WellTyped}
use Rattle.method.specs.WellFormed.{IsHeapOf}
use Rattle.method.specs.Expressions.{Context, Spot as MachineSpot, scene as machine_scene}
use Rattle.method.specs.Actions as m
use Rattle.method.specs.Actions.{spot}
use Rattle.method.proofs.Global.{and_both, both_and, in_set}
use Rattle.machine_laws.proofs.Heaps.{put_same}
use Rattle.terms.specs.Formula.{Formula}
use Rattle.term_meaning.specs.Meaning.{Language}
use Rattle.conditions.specs.Formulas.{me, null}
use Rattle.conditions.specs.Symbolic.{Symbolic, Truth, Number, Reference}
use Rattle.conditions.specs.Annotations.{symbolic_at, formula, translate}
use Rattle.conditions.specs.Quantified.{members_quantified, spec_quantifiers, specs_quantifiers, program_quantifiers, find_quantifier, any_of_type, function_words, struct_words}
use Rattle.conditions.specs.Code.{Spot, State, scene}
use Rattle.conditions.specs.Code as code
use Rattle.conditions.specs.Actions.{members_formula}
use Rattle.conditions.specs.Actions as p_
use Rattle.condition_walks.proofs.TermSorts.{OfType, AllSorted}
use Rattle.condition_meaning.specs.Languages.{language_of}
use Rattle.condition_meaning.specs.Fits.{is_ref, names}
use Rattle.condition_meaning.specs.Annotated as tests
use Rattle.condition_meaning.specs.Annotated.{Annotated, Each, nothing_hidden, IsListed}
use Rattle.condition_meaning.proofs.Near.{near_of}
use Rattle.condition_meaning.proofs.Truths as truths
use Rattle.condition_meaning.proofs.Forms.{SameForm}
use Rattle.condition_meaning.proofs.Scenes.{Match}
use Rattle.condition_meaning.proofs.Listed.{each_parts, fits_by_test, stands_at}
use Rattle.condition_meaning.proofs.Quantifiers.{every_in}
use Rattle.condition_meaning.proofs.FunctionScenes.{Args, ItemsFit, items_are}
use Rattle.condition_meaning.proofs.Contracts.{annotation_is}
use Rattle.condition_meaning.proofs.Environments.{Environment, Has, Is, HeapIs, has_me}
use Rattle.action_conditions.proofs.Words.{Refer}
use Rattle.action_conditions.proofs.Places.{Stands, AllStand, local_stands}
use Rattle.action_conditions.proofs.NamedValues.{value_named}
use Rattle.action_conditions.proofs.AllMembers.{fixed_is, kept_is}
use Rattle.action_conditions.proofs.Wraps.{set_term, set_heap, members_ok}
use Rattle.action_conditions.proofs.Steady.{Steady}
use Rattle.action_conditions.proofs.Plain.{MatchesHere, stated_of}

-- terms are of the sorts of their variables
pub same_sort : (ty : DeclaredType) (w : Symbolic) → OfType ty w → is_ref w ≡ is_ref (any_of_type ty)
same_sort (Integer c) (Truth y) s = refl
same_sort (Integer c) (Number y) s = refl
same_sort (Integer c) (Reference y) s = absurd (cc)
same_sort (Pointer n) (Truth y) s = absurd (cc)
same_sort (Pointer n) (Number y) s = absurd (cc)
same_sort (Pointer n) (Reference y) s = refl
same_sort Object (Truth y) s = absurd (cc)
same_sort Object (Number y) s = absurd (cc)
same_sort Object (Reference y) s = refl
same_sort Claim (Truth y) s = absurd (cc)
same_sort Claim (Number y) s = absurd (cc)
same_sort Claim (Reference y) s = refl

same_sorts : (vs : List VariableInfo) (ws : List Symbolic) → AllSorted vs ws → map is_ref ws ≡ map is_ref (map (λ v. any_of_type v.ty) vs)
same_sorts [] [] s = refl
same_sorts [] (w ∷ ws) s = absurd s
same_sorts (v ∷ vs) [] s = absurd s
same_sorts (v ∷ vs) (w ∷ ws) s = λ i. same_sort v.ty w s.0 i ∷ same_sorts vs ws s.1 i

-- the set that wrap gives an object of a type with a fixed one
abbrev pub SetFits : Program → Option StructInfo → Type 0
SetFits p None = Unit {0}
SetFits p (Some s) = (tests.members_fit p s ≡ true) × Each p (λ q. find_quantifier q.number (program_quantifiers p) ≡ Some q) (specs_quantifiers p s.mine.items struct_words)

-- values of these terms, each
pub all_args : (l : Language) (t : Ref) (e : Environment l t) (ws : List Symbolic) (vs : List Value) → AllStand l t e ws vs → Args l e.env ws vs
all_args l t e [] [] s = record { size = refl; each = λ i. none i }
  where
    none : (i : ℕ) → Stands l t e (symbolic_at [] i) (local [] i)
    none zero = (pos 0, truths.has_int l e.env (pos 0), refl)
    none (suc i) = (pos 0, truths.has_int l e.env (pos 0), refl)
all_args l t e [] (v ∷ vs) s = absurd s
all_args l t e (w ∷ ws) [] s = absurd s
all_args l t e (w ∷ ws) (v ∷ vs) s = let r = all_args l t e ws vs s.1 in record { size = ap suc r.size; each = λ i. each r i }
  where
    each : Args l e.env ws vs → (i : ℕ) → Stands l t e (symbolic_at (w ∷ ws) i) (local (v ∷ vs) i)
    each r zero = s.0
    each r (suc i) = r.each i

module _ (p : Program) (good : Annotated p) (f : FunctionInfo) (x : Context) (fis : slice_get p.functions.items x.function ≡ Some f) (t : Ref) (mine : x.me ≡ t) (a : Spot) (entry : IsHeapOf p x.entry) (args : fit_parameters f x.args ≡ true) where
  abbrev l : Language
  l = language_of p

  -- an annotation of the function that fits
  pub record FitsHere (hid : ℕ → Bool) (y : Spec) : Type 0 where
    pub passes : tests.fits p hid false y (function_words f) ≡ true
    pub named : names (length f.variables.items) false y ≡ true
    pub listed : Each p (IsListed p) (spec_quantifiers p y (function_words f))

  module _ (typed : WellTyped p) (thread : is_thread x.me ≡ true) where
    abbrev MatchesIn : (ℕ → Bool) → Environment l t → State → Heap → List Value → Type 0
    MatchesIn hid e st h v = MatchesHere l typed t f x fis mine thread a hid e st h v

    me_is : (e : Environment l t) → Has l t e me (Refers x.me)
    me_is e = subst (λ (r : Ref). Has l t e me (Refers r)) (sym mine) (has_me l t e)

    -- an annotation that fits stands for its value
    pub spec_told : (hid : ℕ → Bool) (y : Spec) (st : State) (h : Heap) (v : List Value) → FitsHere hid y → AllSorted f.variables.items st.locals → Steady p f h v → (e : Environment l t) → MatchesIn hid e st h v → Is l t e (formula p y (scene a st)) (holds p y (machine_scene x h v))
    spec_told hid y st h v fit sorted s e k =
        let here = stated_of l typed t f x fis mine thread a [] 0 hid e st h v s k in
        annotation_is p good x.function f fis e.env hid y a st x h v fit.passes fit.named fit.listed (same_sorts f.variables.items st.locals sorted) args k.spot.entry entry k.heap s.heap.heap_of (me_is e) (all_args l t e a.args x.args k.spot.args) (λ i shown. local_stands l t hid e st.locals v here.many here.locals i shown)

    mine_items : (es : List Spec) → every (tests.member_fits p) es ≡ true → Each p (λ q. find_quantifier q.number (program_quantifiers p) ≡ Some q) (specs_quantifiers p es struct_words) → (e : Environment l t) → ItemsFit l e.env es struct_words
    mine_items [] k each e = tt
    mine_items (y ∷ es) k each e =
        let b = and_both (tests.member_fits p y) (every (tests.member_fits p) es) k in
        let c = and_both (tests.fits p nothing_hidden false y struct_words) (is_ref (translate p y struct_words)) b.0 in
        let d = each_parts p (λ q. find_quantifier q.number (program_quantifiers p) ≡ Some q) (spec_quantifiers p y struct_words) (specs_quantifiers p es struct_words) each in
        ((fits_by_test p y nothing_hidden false struct_words c.0 d.0, c.1), mine_items es b.1 d.1 e)

    -- what the invariants of an object name stands for what they name
    pub mine_told : (ty : ℕ) (at_ : MachineSpot) (hid : ℕ → Bool) (st : State) (h : Heap) (v : List Value) → SetFits p (struct_of p ty) → Steady p f h v → (e : Environment l t) → MatchesIn hid e st h v → (o : Formula) (r : Ref) → Has l t e o (Refers r) → Refer l t e (p_.mine_of p a st.heap o (struct_of p ty)) (m.mine_of p at_ h r (struct_of p ty))
    mine_told ty at_ hid st h v fit s e k o r ho = by (struct_of p ty) fit
      where
        form : SameForm (code.inv_scene o st.heap st.heap) struct_words
        form = record { past = refl; result = refl; locals = refl; entry = refl; bound = refl }

        nothing : (i : ℕ) → Stands l t e (symbolic_at [] i) (local [] i)
        nothing zero = (pos 0, truths.has_int l e.env (pos 0), refl)
        nothing (suc i) = (pos 0, truths.has_int l e.env (pos 0), refl)

        no_bound : (i : ℕ) → truths.Has l e.env (slice_index_or [] i null) (Refers (slice_index_or [] i null_ref))
        no_bound zero = truths.has_null l e.env
        no_bound (suc i) = truths.has_null l e.env

        match : Match l nothing_hidden false e.env (code.inv_scene o st.heap st.heap) (inv_scene r h h)
        match = record { after = k.heap; before = k.heap; me = truths.has_null l e.env; this = ho; locals = λ i n. nothing i; entry = nothing; entry_size = refl; result = (pos 0, truths.has_int l e.env (pos 0), refl); bound = no_bound; subject = (Refers null_ref, truths.has_null l e.env, refl); plain = λ n. refl; proper_after = near_of s.heap.heap_of; proper_before = near_of s.heap.heap_of }

        by : (c : Option StructInfo) → SetFits p c → Refer l t e (p_.mine_of p a st.heap o c) (m.mine_of p at_ h r c)
        by None fit = tt
        by (Some c) fit = items_are l e.env c.mine.items (code.inv_scene o st.heap st.heap) struct_words (inv_scene r h h) refl form match (mine_items c.mine.items fit.0 fit.1 e)

    -- The formula of a wrap's members stands in the program's text under this number, and what names the members fits.
    pub record FitsWrap (ty q : ℕ) : Type 0 where
      pub numbered : find_quantifier q (program_quantifiers p) ≡ Some (members_quantified (has_fixed_owns p ty) q (length x.writes))
      pub names : SetFits p (struct_of p ty)

    mine_named : (es : List Spec) (h : Heap) (r : Ref) → IsHeapOf p h → is_reference r ≡ true → every is_reference (map (λ y. referent (value p y (inv_scene r h h))) es) ≡ true
    mine_named [] h r proper k = refl
    mine_named (y ∷ es) h r proper k =
        both_and (is_reference (referent (value p y (inv_scene r h h)))) (every is_reference (map (λ y. referent (value p y (inv_scene r h h))) es))
        (value_reference (value p y (inv_scene r h h)) (value_named p y (inv_scene r h h) (record { after = proper; before = proper; me = refl; this = k; locals = refl; entry = refl; result = refl; bound = refl })))
        (mine_named es h r proper k)

    set_named : (at_ : MachineSpot) (c : Option StructInfo) (h : Heap) (r : Ref) → IsHeapOf p h → is_reference r ≡ true → every is_reference (m.mine_of p at_ h r c) ≡ true
    set_named at_ None h r proper k = refl
    set_named at_ (Some c) h r proper k = mine_named c.mine.items h r proper k

    -- a member of a list whose members are references
    one_named : (rs : List Ref) (q : Ref) → every is_reference rs ≡ true → is_in q rs ≡ true → is_reference q ≡ true
    one_named rs q e i = every_in is_reference q rs e i

    pub members_told : (ty q : ℕ) (choices : List Value) (line : ℕ) (hid : ℕ → Bool) (st : State) (h : Heap) (v : List Value) → FitsWrap ty q → Steady p f h v → (e : Environment l t) → MatchesIn hid e st h v → (o : Formula) (r : Ref) → is_reference r ≡ true → Has l t e o (Refers r) → HeapIs l t e (set_term p a st ty o) (set_heap p (spot x choices line) h ty r)
        → Is l t e (members_formula p a (has_fixed_owns p ty) q (set_term p a st ty o) o st.heap) (members_ok p (spot x choices line) h ty r)
    members_told ty q choices line hid st h v fit s e k o r ref ho hs = by (has_fixed_owns p ty) fit.numbered hs
      where
        mine_set : List Ref
        mine_set = set_of (m.mine_of p (spot x choices line) h r (struct_of p ty))

        new : Heap
        new = put h r (record (h.get r) { owned = mine_set })

        ok_for : List Ref → Ref → Bool
        ok_for ms u = every (λ q. wrapped u h q && writable u x.entry x.writes q) ms

        by : (b : Bool) → find_quantifier q (program_quantifiers p) ≡ Some (members_quantified b q (length x.writes)) → HeapIs l t e (if b then p_.set_members o (p_.mine_of p a st.heap o (struct_of p ty)) st.heap else st.heap) (put h r (record (h.get r) { owned = if b then mine_set else (h.get r).owned }))
            → Is l t e (members_formula p a b q (if b then p_.set_members o (p_.mine_of p a st.heap o (struct_of p ty)) st.heap else st.heap) o st.heap) (ok_for (if b then mine_set else (h.get r).owned) x.me)
        by true listed hset =
            let z = stands_at p (members_quantified true q (length x.writes)) listed in
            subst (λ u. Is l t e (members_formula p a true q (p_.set_members o (p_.mine_of p a st.heap o (struct_of p ty)) st.heap) o st.heap) (ok_for mine_set u)) (sym mine)
            (fixed_is l t e a x.entry x.writes k.spot.entry k.spot.writes q (p_.set_members o (p_.mine_of p a st.heap o (struct_of p ty)) st.heap) o st.heap new h r hset ho k.heap mine_set (ap (λ (y : Record). y.owned) (put_same h r (record (h.get r) { owned = mine_set })))
            (λ u i. one_named (m.mine_of p (spot x choices line) h r (struct_of p ty)) u (set_named (spot x choices line) (struct_of p ty) h r s.heap.heap_of ref) (sym (in_set u (m.mine_of p (spot x choices line) h r (struct_of p ty))) ∙ i)) z.0 z.1 z.2)
        by false listed hset =
            let z = stands_at p (members_quantified false q (length x.writes)) listed in
            subst (λ u. Is l t e (members_formula p a false q st.heap o st.heap) (ok_for (h.get r).owned u)) (sym mine)
            (kept_is l t e a x.entry x.writes k.spot.entry k.spot.writes q st.heap o st.heap h h r k.heap ho k.heap (h.get r).owned refl (λ u i. one_named (h.get r).owned u (s.heap.heap_of.owned_are r) i) refl z.0 z.1 z.2)
