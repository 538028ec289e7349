-- What the labels of a program say is enough.
use Rattle.std.proofs.Common.{◌≡◌, ℕ, zero, suc, ◌+◌, ◌-◌, nat_le, nat_lt, Bool, true, false, cond, not, ◌==◌, ◌||◌, ◌&&◌, ⊎_elim, refl, ap, ◌∙◌, subst, List, [], ◌∷◌, ◌++◌, length, flat_map, Option, Some, None, slice_get, if◌then◌else◌, arith}
use Rattle.std.proofs.lemmas.Bool.{eqb-true, leb-true, lt-ltb}
use Rattle.std.proofs.lemmas.Option.{slice_get_within}
use Rattle.object_types.specs.declared.references.Ref.{Ref}
use Rattle.method.specs.declared.program.CheckKind.{CheckKind}
use Rattle.method.specs.declared.program.CheckKind.TheVariants.{ClaimStable as ClaimStableKind, Reflexive as ReflexiveKind, Stable as StableKind}
use Rattle.method.specs.declared.program.Spec.{Spec}
use Rattle.method.specs.declared.program.Item.{Item}
use Rattle.method.specs.declared.program.Item.TheVariants.{Struct, Function}
use Rattle.method.specs.declared.program.ClaimSite.{ClaimSite}
use Rattle.method.specs.declared.program.StructInfo.{StructInfo}
use Rattle.method.specs.declared.program.FunctionInfo.{FunctionInfo}
use Rattle.method.specs.declared.program.Program.{Program}
use Rattle.object_types.specs.References.{thread, is_claim}
use Rattle.object_types.specs.Sets.{every}
use Rattle.object_types.specs.Heap.{Heap, closed_in}
use Rattle.method.specs.Tables.{struct_of, struct_test, is_struct}
use Rattle.method.specs.SpecValue.{holds}
use Rattle.method.specs.Invariants.{inv_holds, struct_holds, inv_scene, claim_holds}
use Rattle.method.specs.Admissible.{Reflexive, Stable, ClaimStable}
use Rattle.method.specs.Labels.{Label, on_line, labels, body_labels, end_labels, struct_or_none, function_or_none, item_labels, ProgramLabel, numbered}
use Rattle.method.specs.Actions.{callee}
use Rattle.method.specs.Machine.{begin}
use Rattle.method.specs.Text.{body_checks}
use Rattle.method.specs.LocalRuns.{LocalOk, AllLocalOk}
use Rattle.method.specs.Typing.{is_item, times, same_item, stands, WellTyped}
use Rattle.method.proofs.Global.{and_both, test_cases}
use Rattle.machine_laws.proofs.Typed.{struct_type}
use Rattle.safety_law.specs.SitePlaces.{function_places, is_placed}
use Rattle.safety_law.specs.LabelFacts.{is_checked, LocalFaultsAreLabelled, FunctionFact, ItemFact, AllLabelsHold, LabelsSuffice, LabelsMeanSafe, LabelsMeanSafeAnyReferences}
use Rattle.safety_law.proofs.Faults.{labels_left, labels_right}
use Rattle.safety_law.proofs.Sizes.{body_size}
use Rattle.safety_law.proofs.Actions.{Labelled, labels_stand}
use Rattle.safety_law.proofs.Bodies.{body_has_check}
use Rattle.safety_law.proofs.Sites.{body_labelled}
use Rattle.safety_law.proofs.Respect.{thread_modular_law, any_references_law}

-- the list has it somewhere
pub record Has {A : Type 0} (a : A) (xs : List A) : Type 0 where
  pub place : ℕ
  pub there : slice_get xs place ≡ Some a

has_head : {A : Type 0} (a : A) (xs : List A) → Has a (a ∷ xs)
has_head a xs = record { place = 0; there = refl }

has_tail : {A : Type 0} (a x : A) (xs : List A) → Has a xs → Has a (x ∷ xs)
has_tail a x xs h = record { place = suc h.place; there = h.there }

has_right : {A : Type 0} (a : A) (xs ys : List A) → Has a ys → Has a (xs ++ ys)
has_right a [] ys h = h
has_right a (x ∷ xs) ys h = has_tail a x (xs ++ ys) (has_right a xs ys h)

has_left : {A : Type 0} (a : A) (xs ys : List A) (i : ℕ) → slice_get xs i ≡ Some a → Has a (xs ++ ys)
has_left a [] ys i e = absurd (cc)
has_left a (x ∷ xs) ys zero e = subst (λ (z : _). Has z (x ∷ (xs ++ ys))) (cc) (has_head x (xs ++ ys))
has_left a (x ∷ xs) ys (suc i) e = has_tail a x (xs ++ ys) (has_left a xs ys i e)

-- what stands in the labels of an item stands in those of the program
numbered_has : (item : Item) (n : ℕ) (ls : List Label) (i : ℕ) (l : Label) → slice_get ls i ≡ Some l → Has (record { item = item; ordinal = n + i; check = l }) (numbered item n ls)
numbered_has item n [] i l e = absurd (cc)
numbered_has item n (k ∷ ls) zero l e =
    let z : k ≡ l = cc in
    let made : ℕ → Label → ProgramLabel = λ m c. record { item = item; ordinal = m; check = c } in
    subst (λ m. Has (made m l) (numbered item n (k ∷ ls))) (omega arith) (subst (λ c. Has (made n c) (numbered item n (k ∷ ls))) z (has_head (made n k) (numbered item (n + 1) ls)))
numbered_has item n (k ∷ ls) (suc i) l e =
    has_tail _ _ _ (subst (λ m. Has (record { item = item; ordinal = m; check = l }) (numbered item (n + 1) ls)) (omega arith) (numbered_has item (n + 1) ls i l e))

same_item_is : (a b : Item) → same_item a b ≡ true → a ≡ b
same_item_is (Struct n) (Struct k) e = ap Struct (eqb-true n k e)
same_item_is (Struct n) (Function k) e = absurd (cc)
same_item_is (Function n) (Struct k) e = absurd (cc)
same_item_is (Function n) (Function k) e = ap Function (eqb-true n k e)

listed_has : (p : Program) (item : Item) (items : List Item) (l : ProgramLabel) → times item items ≡ 1 → Has l (numbered item 1 (item_labels p item)) →
    Has l (flat_map (λ i. numbered i 1 (item_labels p i)) items)
listed_has p item [] l e h = absurd (cc)
listed_has p item (j ∷ js) l e h = by (same_item item j) refl e (λ z. listed_has p item js l z h)
  where
    by : (b : Bool) → same_item item j ≡ b → (if b then 1 else 0) + times item js ≡ 1 → (times item js ≡ 1 → Has l (flat_map (λ i. numbered i 1 (item_labels p i)) js)) →
        Has l (flat_map (λ i. numbered i 1 (item_labels p i)) (j ∷ js))
    by true same e more = let z = subst (λ i. Has l (numbered i 1 (item_labels p i))) (same_item_is item j same) h in has_left l (numbered j 1 (item_labels p j))
        (flat_map (λ i. numbered i 1 (item_labels p i)) js) z.place z.there
    by false same e more = has_right l (numbered j 1 (item_labels p j)) (flat_map (λ i. numbered i 1 (item_labels p i)) js) (more (omega (arith, e)))

pub local_faults_are_labelled : LocalFaultsAreLabelled
local_faults_are_labelled p x f ends number h l fails =
    let T = Labelled (labels p f) 1 in
    let z = labels_stand (labels p f) 1 in
    let y = body_has_check T p x f number f.body.items 1 h l ends (labels_left T (body_labels p f f.body.items) (end_labels p f f.result) 1 z)
    (labels_right T (body_labels p f f.body.items) (end_labels p f f.result) 1 (body_checks p f f.body.items) (body_size p f f.body.items) z) fails in
    record { kind = y.0; line = y.1; above = y.2.0; there = y.2.1; checked = y.3 }

module _ (p : Program) (typed : WellTyped p) (all : AllLabelsHold p) where
  item_once : (item : Item) → is_item p item ≡ true → times item p.items.items ≡ 1
  item_once item e = typed.items item ∙ ap (λ b. if b then 1 else 0) e

  fact_at : (item : Item) → is_item p item ≡ true → (i : ℕ) (l : Label) → slice_get (item_labels p item) i ≡ Some l → ItemFact p item (1 + i) l.kind
  fact_at item e i l at_ =
      let h = listed_has p item p.items.items (record { item = item; ordinal = 1 + i; check = l }) (item_once item e) (numbered_has item 1 (item_labels p item) i l at_) in
      all h.place (record { item = item; ordinal = 1 + i; check = l }) h.there

  -- Types.

  struct_at : (ty : ℕ) (s : StructInfo) → struct_of p ty ≡ Some s → (ty - 3 + 3 ≡ ty) × (slice_get p.structs.items (ty - 3) ≡ Some s)
  struct_at ty s e = by (nat_le 3 ty) refl e
    where
      by : (b : Bool) → nat_le 3 ty ≡ b → (if b then slice_get p.structs.items (ty - 3) else None) ≡ Some s → (ty - 3 + 3 ≡ ty) × (slice_get p.structs.items (ty - 3) ≡ Some s)
      by true l z = let k = leb-true 3 ty l in (omega (arith, k), z)
      by false l z = absurd (cc)

  no_invariants : (s : StructInfo) → length s.invariants.items == 0 ≡ true → (f : Spec → Bool) → every f s.invariants.items ≡ true
  no_invariants s e f = by s.invariants.items e
    where
      by : (es : List Spec) → length es == 0 ≡ true → every f es ≡ true
      by [] z = refl
      by (x ∷ es) z = let k = eqb-true (length (x ∷ es)) 0 z in absurd (omega (arith, k))

  empty_inv : (ty : ℕ) (s : StructInfo) → is_struct p ty ≡ true → struct_of p ty ≡ Some s → length s.invariants.items == 0 ≡ true → (o : Ref) → o.ty ≡ ty → (h k : Heap) → inv_holds p o h k ≡ true
  unfolding inv_holds
  empty_inv ty s st is e o t h k =
      let c : is_claim o ≡ false = ap (λ n. n == 2) t ∙ (struct_type p ty st).2 in
      ap (λ z. cond z (not (closed_in k o) || claim_holds p o k) (struct_holds p (struct_of p o.ty) (inv_scene o h k))) c
      ∙ (ap (λ u. struct_holds p u (inv_scene o h k)) (ap (struct_of p) t ∙ is) ∙ no_invariants s e (λ x. holds p x (inv_scene o h k)))

  is_place : {A : Type 0} (xs : List A) (i : ℕ) (a : A) → slice_get xs i ≡ Some a → nat_lt i (length xs) ≡ true
  is_place xs i a e = lt-ltb i (length xs) (slice_get_within xs i a e)

  -- a type with labels has both facts
  type_fact : (ty : ℕ) (s : StructInfo) → struct_of p ty ≡ Some s → (length s.invariants.items == 0 && not s.has_approval) ≡ false → Reflexive p ty × Stable p ty
  type_fact ty s is some_ =
      let z = struct_at ty s is in
      let item = Struct (ty - 3) in
      let there = is_place p.structs.items (ty - 3) s z.1 in
      let ls : item_labels p item ≡ on_line s.line (ReflexiveKind ∷ StableKind ∷ []) = ap struct_or_none z.1 ∙ ap (λ b. if b then [] else on_line s.line (ReflexiveKind ∷ StableKind ∷ [])) some_ in (
        subst (Reflexive p) z.0 (fact_at item there 0 (record { kind = ReflexiveKind; line = s.line }) (ap (λ xs. slice_get xs 0) ls)),
        subst (Stable p) z.0 (fact_at item there 1 (record { kind = StableKind; line = s.line }) (ap (λ xs. slice_get xs 1) ls)),
      )

  -- and one without has them anyway
  both_facts : (ty : ℕ) → is_struct p ty ≡ true → Reflexive p ty × Stable p ty
  both_facts ty st = by (struct_of p ty) refl st
    where
      by : (o : Option StructInfo) → struct_of p ty ≡ o → struct_test (λ s. true) o ≡ true → Reflexive p ty × Stable p ty
      by None is e = absurd (cc)
      by (Some s) is e = ⊎_elim
          (λ z. let none = (and_both (length s.invariants.items == 0) (not s.has_approval) z).0 in
          ((λ h0 h1 good kept o t c. empty_inv ty s st is none o t h1 h1), (λ h0 h1 good legal o t c d u. empty_inv ty s st is none o t h0 h1)))
          (λ z. type_fact ty s is z)
          (test_cases (length s.invariants.items == 0 && not s.has_approval))

  -- Functions.

  fact_local : (k m : ℕ) (kind : CheckKind) → is_checked kind ≡ true → FunctionFact p k m kind → LocalOk p k m
  fact_local k m ClaimStableKind c x = absurd (cc)
  fact_local k m _ c x = x

  -- the fact of the label with this number
  label_fact : (k : ℕ) (f : FunctionInfo) → slice_get p.functions.items k ≡ Some f → (m : ℕ) (kind : CheckKind) (line : ℕ) → Labelled (labels p f) 1 m kind line → FunctionFact p k m kind
  label_fact k f is m kind line at_ =
      let ls : item_labels p (Function k) ≡ labels p f = ap (function_or_none p) is in
      let l : Label = record { kind = kind; line = line } in
      let low = at_.0 in
      subst (λ j. FunctionFact p k j kind) (omega (arith, low)) (fact_at (Function k) (is_place p.functions.items k f is) (m - 1) l (ap (λ xs. slice_get xs (m - 1)) ls ∙ at_.1))

  local_ok : AllLocalOk p
  local_ok k m f is t h args good fit pre fails =
      let x = callee p k f (thread t) h args in
      let y = local_faults_are_labelled p x f (typed.returns k f is) m h (begin p x).locals fails in
      fact_local k m y.kind y.checked (label_fact k f is m y.kind y.line (y.above, y.there)) f is t h args good fit pre fails

  -- Claim sites.

  site_stable : (n : ℕ) (site : ClaimSite) → slice_get p.sites.items n ≡ Some site → ClaimStable p site
  site_stable n site is = by (slice_get p.functions.items site.function) refl (typed.sites_stand n site is)
    where
      by : (o : Option FunctionInfo) → slice_get p.functions.items site.function ≡ o → stands o n ≡ true → ClaimStable p site
      by None fis e = absurd (cc)
      by (Some f) fis e =
          let T = Labelled (labels p f) 1 in
          let y = body_labelled T p n site is f f.body.items 1 e (labels_left T (body_labels p f f.body.items) (end_labels p f f.result) 1 (labels_stand (labels p f) 1)) in
          label_fact site.function f fis y.number ClaimStableKind y.line y.label n site is (ap (λ o. is_placed n y.number (function_places p o)) fis ∙ y.placed)

pub labels_suffice : LabelsSuffice
labels_suffice p typed all = (
  record {
    reflexive = λ ty s. (both_facts p typed all ty s).0;
    stable = λ ty s. (both_facts p typed all ty s).1;
    claims = λ n site is. site_stable p typed all n site is;
  },
  local_ok p typed all,
)

pub labels_mean_safe : LabelsMeanSafe
labels_mean_safe p typed all = let z = labels_suffice p typed all in thread_modular_law p typed z.0 z.1

pub labels_mean_safe_any_references : LabelsMeanSafeAnyReferences
labels_mean_safe_any_references p typed all = let z = labels_suffice p typed all in any_references_law p typed z.0 z.1
