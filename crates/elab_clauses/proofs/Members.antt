-- Members of a struct, one after the other, and what stands around them.
use Rattle.std.proofs.Common.{◌≡◌, ℕ, ◌+◌, ◌<◌, ◌≤◌, Bool, true, false, if◌then◌else◌, List, [], ◌∷◌, ◌++◌, Some, None, length, drop, get_or, map, refl, sym, ap, ◌∙◌, arith, append_assoc, append-nil}
use Rattle.std.proofs.lemmas.List.{map-append}
use Rattle.c_syntax.specs.declared.items.Member as m
use Rattle.c_syntax.specs.Views as view
use Rattle.c_syntax.specs.Items as i
use Rattle.c_syntax.specs.Items.{Member, StructTree, Item}
use Rattle.typing_spec.specs.Contexts as c
use Rattle.elab_annotations.specs.Typing.{appended, nothing, pushed}
use Rattle.elab_annotations.specs.Views.{Several}
use Rattle.elab_shapes.proofs.Rows.{drop_at, drop_all}
use Rattle.typed_program.specs.Annotations.{mine, formulas}
use Rattle.typed_program.specs.Numbers.{Around, fields_before}
use Rattle.typed_program.specs.Shapes.{Sorts, numbered}
use Rattle.typing_spec.specs.Declarations.{fields, is_approval}
use Rattle.typed_program.specs.Tables as tables
use Rattle.typed_program.specs.Tables.{invariants_of, each_invariant, around_struct}
use Rattle.typed_program.specs.Trees as t
use Rattle.elab_clauses.specs.Numberings.{Numbering, said, typed_said}
use Rattle.elab_clauses.specs.Typing.{struct_invariants}
use Rattle.elab_clauses.proofs.Invariants.{alike}
use Rattle.elab_clauses.specs.Members.{with_member, member_formulas, member_mine, has_fixed_set, struct_of, numbered_struct}

-- ---- invariants

module _ (k : Numbering) (a : Around) where
  -- those of the members that are left
  abbrev pub left : Several → List Member → Several
  left r ys = appended r (struct_invariants k a r.next (invariants_of ys))

  one_left : (r : Several) (y : Member) (ys : List Member) → left r (y ∷ ys) ≡ left (with_member k a r y) ys
  one_left r (i.Field f) ys = refl
  one_left r (i.Invariant x) ys = by (is_approval x.property)
    where
      by : (b : Bool) → appended r (struct_invariants k a r.next (if b then invariants_of ys else x ∷ invariants_of ys)) ≡ left (if b then r else pushed r (typed_said k a r.next x.property)) ys
      by true = refl
      by false = alike (sym (append_assoc r.specs (said k a r.next x.property ∷ []) (struct_invariants k a (r.next + formulas x.property) (invariants_of ys)).specs)) (omega arith)

  pub member_added : (xs : List m.Member) (i : ℕ) (x : m.Member) → i < length xs → x ≡ get_or xs i x → (r s total : Several) → s ≡ with_member k a r (view.member x) → left r (map view.member (drop i xs)) ≡ total → left s (map view.member (drop (i + 1) xs)) ≡ total
  member_added xs i x lt is r s total e g =
      let rest = map view.member (drop (i + 1) xs) in
      ap (λ q. left q rest) e ∙ (sym (one_left r (view.member x) rest) ∙ (sym (ap (λ zs. left r (map view.member zs)) (drop_at xs i x lt is)) ∙ g))

  pub none_left : (xs : List m.Member) (i : ℕ) → length xs ≤ i → (r total : Several) → left r (map view.member (drop i xs)) ≡ total → r ≡ total
  none_left xs i h r total e =
      alike (sym (append-nil r.specs)) (omega arith) ∙ (sym (ap (λ zs. left r (map view.member zs)) (drop_all xs i h)) ∙ e)

  pub all_left : (n : ℕ) (r : Several) (xs : List m.Member) → r ≡ nothing n → left r (map view.member xs) ≡ struct_invariants k a n (invariants_of (map view.member xs))
  all_left n r xs e = ap (λ q. left q (map view.member xs)) e

-- ---- members of the owned set

mine_step : (a : Around) (n : ℕ) (y : Member) (ys : List Member) → each_invariant (mine a) n (invariants_of (y ∷ ys)) ≡ member_mine a n y ++ each_invariant (mine a) (n + member_formulas y) (invariants_of ys)
mine_step a n (i.Field f) ys = ap (λ k. each_invariant (mine a) k (invariants_of ys)) (omega arith)
mine_step a n (i.Invariant x) ys = by (is_approval x.property)
  where
    by : (b : Bool)
        → each_invariant (mine a) n (if b then invariants_of ys else x ∷ invariants_of ys)
        ≡ (if b then [] else mine a n x.property) ++ each_invariant (mine a) (n + (if b then 0 else formulas x.property)) (invariants_of ys)
    by true = ap (λ k. each_invariant (mine a) k (invariants_of ys)) (omega arith)
    by false = refl

pub mine_law : {X : Type 0} (f : t.Spec → X) (a : Around) (n : ℕ) (y : Member) (ys : List Member)
    → map f (each_invariant (mine a) n (invariants_of (y ∷ ys))) ≡ map f (member_mine a n y) ++ map f (each_invariant (mine a) (n + member_formulas y) (invariants_of ys))
mine_law f a n y ys = ap (map f) (mine_step a n y ys) ∙ map-append f (member_mine a n y) (each_invariant (mine a) (n + member_formulas y) (invariants_of ys))

-- ---- the owned set that a wrap fixes

module _ (f : t.Spec → t.Spec) (items : List Item) (s : StructTree) (n : ℕ) where
  abbrev fixed_by : Bool → List t.Spec
  fixed_by b = map f (if b then each_invariant (mine (around_struct items s)) n (invariants_of s.members) else [])

  pub fixed : (a : Around) → a ≡ around_struct items s → has_fixed_set s ≡ true → map f (each_invariant (mine a) n (invariants_of s.members)) ≡ map f (tables.fixed_set items s n)
  fixed a e h = ap (λ (b : Around). map f (each_invariant (mine b) n (invariants_of s.members))) e ∙ sym (ap fixed_by h)

  pub not_fixed : has_fixed_set s ≡ false → [] ≡ map f (tables.fixed_set items s n)
  not_fixed h = sym (ap fixed_by h)

-- ---- what stands around

abbrev around_members : List Item → StructTree → List c.Variable → List c.Variable → List (List ℕ) → Around
around_members items s bound known names = record {
  context = record {
    scope = record { items = items; variables = bound ++ known; this = Some s; result = None };
    value = None;
    text = c.TypeInvariant;
    property = c.Outside;
    in_old = false;
    in_atomic = false;
    in_unwrapping = false;
  };
  names = names;
  bound = length bound;
}

-- no variables, and no quantifier
pub around_is : (items : List Item) (s : StructTree) {bound known : List c.Variable} {names : List (List ℕ)} → bound ≡ [] → known ≡ [] → names ≡ [] → around_members items s bound known names ≡ around_struct items s
around_is items s p q r = λ i. around_members items s (p i) (q i) (r i)

-- a struct out of its parts
pub struct_told : (k : Numbering) (items : List Item) (s : StructTree) (n : ℕ) (a : Around) {text : List ℕ} {before count : ℕ} {told owned : List t.Spec} → a ≡ around_struct items s → text ≡ s.name.name → before ≡ fields_before items s.name → count ≡ length (fields s.members)
    → told ≡ (struct_invariants k a n (invariants_of s.members)).specs → owned ≡ map (numbered k.shapes k.sorts) (tables.fixed_set items s n) → struct_of s text before count told owned ≡ numbered_struct k (tables.struct items n s)
struct_told k items s n a e p q r t u = λ i. struct_of s (p i) (q i) (r i) ((t ∙ ap (λ (b : Around). (struct_invariants k b n (invariants_of s.members)).specs) e) i) (u i)

-- a struct speaks of no variables
pub no_variables : (shapes : List t.Shape) {sorts : Sorts} {others : List Item} (items : List Item) (s : StructTree) (n : ℕ) → sorts ≡ tables.no_sorts → others ≡ items → numbered_struct (record { shapes = shapes; sorts = sorts }) (tables.struct others n s) ≡ tables.numbered_struct shapes (tables.struct items n s)
no_variables shapes items s n p q = λ i. numbered_struct (record { shapes = shapes; sorts = p i }) (tables.struct (q i) n s)
