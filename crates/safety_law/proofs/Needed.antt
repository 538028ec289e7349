-- The labels of a program say no more than safety asks of its types, its claim sites and its functions.
use Rattle.std.proofs.Common.{◌≡◌, ℕ, zero, suc, ◌+◌, ◌-◌, nat_le, Bool, true, false, ◌⊎◌, inl, inr, ⊎_elim, refl, ap, subst, List, [], ◌∷◌, ◌++◌, flat_map, Option, Some, None, slice_get, if◌then◌else◌, arith}
use Rattle.std.proofs.lemmas.Bool.{le-leb}
use Rattle.method.specs.declared.program.CheckKind.{CheckKind}
use Rattle.method.specs.declared.program.CheckKind.TheVariants.{ClaimStable as ClaimStableKind, Reflexive as ReflexiveKind, Stable as StableKind}
use Rattle.method.specs.declared.program.Item.{Item}
use Rattle.method.specs.declared.program.Item.TheVariants.{Struct, Function}
use Rattle.method.specs.declared.program.StructInfo.{StructInfo}
use Rattle.method.specs.declared.program.Program.{Program}
use Rattle.method.specs.Tables.{struct_test, is_struct}
use Rattle.method.specs.Admissible.{Admissible}
use Rattle.method.specs.Labels.{Label, struct_or_none, item_labels, ProgramLabel, numbered}
use Rattle.method.specs.LocalRuns.{AllLocalOk}
use Rattle.machine_laws.proofs.Typed.{some_is}
use Rattle.safety_law.specs.LabelFacts.{TypeFact, FunctionFact, ItemFact, LabelHolds, LabelsAreNeeded}

slice_split : {A : Type 0} (xs ys : List A) (i : ℕ) (a : A) → slice_get (xs ++ ys) i ≡ Some a → (slice_get xs i ≡ Some a) ⊎ ((j : ℕ) × (slice_get ys j ≡ Some a))
slice_split [] ys i a e = inr (i, e)
slice_split (x ∷ xs) ys zero a e = inl e
slice_split (x ∷ xs) ys (suc i) a e = slice_split xs ys i a e

some_struct : (o : Option StructInfo) (j : ℕ) (l : Label) → slice_get (struct_or_none o) j ≡ Some l → struct_test (λ s. true) o ≡ true
some_struct None j l e = absurd (cc)
some_struct (Some s) j l e = refl

struct_there : (p : Program) (n j : ℕ) (l : Label) → slice_get (item_labels p (Struct n)) j ≡ Some l → is_struct p (n + 3) ≡ true
struct_there p n j l e = by (nat_le 3 (n + 3)) (le-leb 3 (n + 3) (omega arith))
  where
    by : (b : Bool) → b ≡ true → struct_test (λ s. true) (if b then slice_get p.structs.items (n + 3 - 3) else None) ≡ true
    by true z = subst (λ k. struct_test (λ s. true) (slice_get p.structs.items k) ≡ true) (omega arith) (some_struct (slice_get p.structs.items n) j l e)
    by false z = absurd (cc)

module _ (p : Program) (adm : Admissible p) (local : AllLocalOk p) where
  type_fact : (n : ℕ) → is_struct p (n + 3) ≡ true → (kind : CheckKind) → TypeFact p (n + 3) kind
  type_fact n s ReflexiveKind = adm.reflexive (n + 3) s
  type_fact n s StableKind = adm.stable (n + 3) s
  type_fact n s _ = tt

  function_fact : (k number : ℕ) (kind : CheckKind) → FunctionFact p k number kind
  function_fact k number ClaimStableKind = λ n site is e. adm.claims n site is
  function_fact k number _ = local k number

  item_fact : (item : Item) (j : ℕ) (l : Label) → slice_get (item_labels p item) j ≡ Some l → (number : ℕ) (kind : CheckKind) → ItemFact p item number kind
  item_fact (Struct n) j l e number kind = type_fact n (struct_there p n j l e) kind
  item_fact (Function k) j l e number kind = function_fact k number kind

  numbered_fact : (item : Item) (n : ℕ) (ls : List Label) → ((number : ℕ) (kind : CheckKind) → ItemFact p item number kind) → (i : ℕ) (l : ProgramLabel) →
      slice_get (numbered item n ls) i ≡ Some l → LabelHolds p l
  numbered_fact item n [] f i l e = absurd (cc)
  numbered_fact item n (k ∷ ls) f zero l e = subst (LabelHolds p) (some_is (record { item = item; ordinal = n; check = k }) l e) (f n k.kind)
  numbered_fact item n (k ∷ ls) f (suc i) l e = numbered_fact item (n + 1) ls f i l e

  one_fact : (item : Item) (ls : List Label) → item_labels p item ≡ ls → (i : ℕ) (l : ProgramLabel) → slice_get (numbered item 1 ls) i ≡ Some l → LabelHolds p l
  one_fact item [] is i l e = absurd (cc)
  one_fact item (k ∷ ls) is i l e = numbered_fact item 1 (k ∷ ls) (item_fact item 0 k (ap (λ xs. slice_get xs 0) is)) i l e

  list_fact : (items : List Item) (i : ℕ) (l : ProgramLabel) → slice_get (flat_map (λ i. numbered i 1 (item_labels p i)) items) i ≡ Some l → LabelHolds p l
  list_fact [] i l e = absurd (cc)
  list_fact (item ∷ items) i l e = ⊎_elim (one_fact item (item_labels p item) refl i l) (λ z. list_fact items z.0 l z.1)
      (slice_split (numbered item 1 (item_labels p item)) (flat_map (λ i. numbered i 1 (item_labels p i)) items) i l e)

pub labels_are_needed : LabelsAreNeeded
labels_are_needed p adm local i l e = list_fact p adm local p.items.items i l e
