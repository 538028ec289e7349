-- No condition is stronger than its check, but for that of a claim site, which no local run fails; and that isn't where what the site claims is stable.
use Rattle.std.proofs.Common.{◌≡◌, ℕ, suc, ◌+◌, ◌-◌, ◌==◌, nat_le, Bool, true, false, not, ◌&&◌, if◌then◌else◌, List, [], ◌∷◌, ◌++◌, length, Option, Some, None, slice_get, refl, ap, subst, sym, ◌∙◌, arith}
use Rattle.std.specs.Prelude.{flat_map}
use Rattle.std.proofs.lemmas.Bool.{le-leb}
use Rattle.method.specs.declared.program.StructInfo.{StructInfo}
use Rattle.method.specs.declared.program.Item.{Item}
use Rattle.method.specs.declared.program.Item.TheVariants.{Struct, Function}
use Rattle.method.specs.declared.program.FunctionInfo.{FunctionInfo}
use Rattle.method.specs.declared.program.Program.{Program}
use Rattle.method.specs.Admissible.{Admissible, ClaimStable}
use Rattle.method.specs.LocalRuns.{LocalOk, AllLocalOk}
use Rattle.method.specs.Scopes.{Scoped}
use Rattle.method.specs.Tables.{is_struct, struct_test}
use Rattle.method.specs.Typing.{WellTyped}
use Rattle.terms.specs.Formula.{Formula}
use Rattle.term_meaning.specs.Meaning.{Language, IsValid}
use Rattle.conditions.specs.Admissible.{reflexive, stable}
use Rattle.conditions.specs.Conditions.{function_conditions, item_conditions, struct_conditions}
use Rattle.conditions.specs.Statements.{body, entry_facts}
use Rattle.condition_walks.proofs.Entry.{entry_state, first_spot, entry_spot}
use Rattle.condition_meaning.specs.Languages.{language_of}
use Rattle.condition_meaning.specs.Promises.{AllValid, EachSite, SitesAreValid, ConditionsAreValid}
use Rattle.condition_meaning.proofs.Laws.{reflexive_means, stable_means}
use Rattle.condition_meaning.proofs.SitesBack.{condition_by_claim}
use Rattle.function_law.specs.Checks.{ValidAt, CheckIsValid}
use Rattle.conditions_law.proofs.Fits.{sets_there}
use Rattle.conditions_law.specs.Texts.{TextFits}
use Rattle.conditions_law.proofs.Safety.{conditions_mean_local_safety, local_ok_by_condition}
use Rattle.converse_law.proofs.Sound.{SoundAt, sound_alone, sound_unless, alone_behind}
use Rattle.converse_law.proofs.StandAlone.{alone_body}
use Rattle.converse_law.proofs.Valid.{check_valid}
use Rattle.converse_law.specs.Laws.{OtherConditionsAreExact, StableSitesSuffice, ConditionsMeanExactly}

-- Checks that don't stand alone.

pub other_conditions_are_exact : OtherConditionsAreExact
other_conditions_are_exact p typed scoped text number label f is other =
    let whole = body p f (entry_spot p f) f.body.items (entry_state f) in
    let apart = sym (alone_behind label 1 (entry_facts p f (first_spot p f) (entry_state f)) whole) ∙ other in
    (check_valid p text.annotated typed scoped text.conversions (sets_there p text) number label f is (sound_unless (language_of p) label 1 whole.path apart), local_ok_by_condition p typed scoped text number label)

-- Where what claim sites claim is stable.

sound_body : (p : Program) → SitesAreValid p → (label : ℕ) (f : FunctionInfo) → SoundAt (language_of p) label 1 (body p f (entry_spot p f) f.body.items (entry_state f)).path
sound_body p sites label f = sound_alone (language_of p) label 1 (body p f (entry_spot p f) f.body.items (entry_state f)).path (alone_body p (IsValid (language_of p)) sites (entry_spot p f) f f.body.items (entry_state f))

check_by_sites : (p : Program) → WellTyped p → Scoped p → TextFits p → EachSite p (ClaimStable p) → (number label : ℕ) → LocalOk p number label → CheckIsValid p number label
check_by_sites p typed scoped text stable_sites number label ok = by_place (slice_get p.functions.items number) refl
  where
    by_place : (o : Option FunctionInfo) → slice_get p.functions.items number ≡ o → ValidAt (language_of p) label 1 (function_conditions p (slice_get p.functions.items number))
    by_place None h = subst (λ o. ValidAt (language_of p) label 1 (function_conditions p o)) (sym h) tt
    by_place (Some f) h = check_valid p text.annotated typed scoped text.conversions (sets_there p text) number label f h (sound_body p (λ n site is. condition_by_claim p text.annotated typed n site is (stable_sites n site is)) label f) ok

pub stable_sites_suffice : StableSitesSuffice
stable_sites_suffice p typed scoped text stable_sites number label = (check_by_sites p typed scoped text stable_sites number label, local_ok_by_condition p typed scoped text number label)

-- A whole program.

all_labels : (l : Language) (n : ℕ) (fs : List Formula) → ((label : ℕ) → ValidAt l label n fs) → AllValid l fs
all_labels l n [] v = tt
all_labels l n (f ∷ fs) v = ((v n).0 refl, all_labels l (suc n) fs (λ label. (v label).1))

valid_both : (l : Language) (fs gs : List Formula) → AllValid l fs → AllValid l gs → AllValid l (fs ++ gs)
valid_both l [] gs a b = b
valid_both l (f ∷ fs) gs a b = (a.0, valid_both l fs gs a.1 b)

each_item : (l : Language) (g : Item → List Formula) (items : List Item) → ((i : Item) → AllValid l (g i)) → AllValid l (flat_map g items)
each_item l g [] v = tt
each_item l g (i ∷ is) v = valid_both l (g i) (flat_map g is) (v i) (each_item l g is v)

struct_there : (p : Program) (n : ℕ) (s : StructInfo) → slice_get p.structs.items n ≡ Some s → is_struct p (n + 3) ≡ true
struct_there p n s is =
    let low : nat_le 3 (n + 3) ≡ true = le-leb 3 (n + 3) (omega arith) in
    let place : n + 3 - 3 ≡ n = omega arith in
    ap (λ (b : Bool). struct_test (λ s. true) (if b then slice_get p.structs.items (n + 3 - 3) else None)) low ∙ ap (λ (k : ℕ). struct_test (λ s. true) (slice_get p.structs.items k)) place ∙ ap (λ (o : Option StructInfo). struct_test (λ s. true) o) is

module _ (p : Program) (typed : WellTyped p) (scoped : Scoped p) (text : TextFits p) (admissible : Admissible p) (ok : AllLocalOk p) where
  struct_valid : (n : ℕ) (o : Option StructInfo) → slice_get p.structs.items n ≡ o → AllValid (language_of p) (struct_conditions n o)
  struct_valid n None h = tt
  struct_valid n (Some s) h = by_size (length s.invariants.items == 0 && not s.has_approval)
    where
      by_size : (b : Bool) → AllValid (language_of p) (if b then [] else reflexive (n + 3) ∷ stable (n + 3) ∷ [])
      by_size true = tt
      by_size false =
          let there = struct_there p n s h in
          ((reflexive_means p text.annotated (n + 3) there).1 (admissible.reflexive (n + 3) there), ((stable_means p text.annotated (n + 3) there).1 (admissible.stable (n + 3) there), tt))

  item_valid : (i : Item) → AllValid (language_of p) (item_conditions p i)
  item_valid (Struct n) = struct_valid n (slice_get p.structs.items n) refl
  item_valid (Function n) = all_labels (language_of p) 1 (function_conditions p (slice_get p.functions.items n)) (λ label. check_by_sites p typed scoped text admissible.claims n label (ok n label))

  all_valid : ConditionsAreValid p
  all_valid = each_item (language_of p) (item_conditions p) p.items.items item_valid

pub conditions_mean_exactly : ConditionsMeanExactly
conditions_mean_exactly p typed scoped text = (conditions_mean_local_safety p typed scoped text, λ z. all_valid p typed scoped text z.0 z.1)
