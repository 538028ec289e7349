-- How a loop asks of each object whether it may be claimed behind those before it.
use Rattle.std.proofs.Common.{◌≡◌, ℕ, ◌+◌, ◌<◌, ◌≤◌, Bool, true, false, not, ◌&&◌, ◌||◌, List, [], ◌∷◌, ◌++◌, length, get_or, take, drop, map, None, refl, sym, ap, ◌∙◌, add-one, drop-cons}
use Rattle.std.proofs.lemmas.List.{drop_all}
use Rattle.std.proofs.Math.Seq.{take-add}
use Rattle.object_types.specs.declared.references.Ref.{Ref}
use Rattle.object_types.specs.References.{same_ref}
use Rattle.object_types.specs.Sets.{is_in}
use Rattle.object_types.specs.Heap.{Heap, closed_in}
use Rattle.method.specs.declared.program.CheckKind.{CheckKind}
use Rattle.method.specs.declared.program.Program.{Program}
use Rattle.method.specs.Tables.{is_claimable}
use Rattle.method.specs.Expressions.{Spot}
use Rattle.method.specs.Actions.{claim_tests, may_count}
use Rattle.machine_laws.proofs.Heaps.{in_both, in_more, in_none}
use Rattle.machine_values.specs.Answers.{Verdict, Passes, Fails, one_verdict, verdict, plain}
use Rattle.machine_claims.specs.Claiming.{claim_test}

or_turned : (a b : Bool) → (a || b) ≡ (b || (a || false))
or_turned true true = refl
or_turned true false = refl
or_turned false true = refl
or_turned false false = refl

-- the same objects, whatever their order
abbrev pub Alike : List Ref → List Ref → Type 0
Alike xs ys = (q : Ref) → is_in q xs ≡ is_in q ys

one_more : (os earlier : List Ref) (i : ℕ) (o : Ref) → Alike earlier (take i os) → i < length os → Alike (get_or os i o ∷ earlier) (take (i + 1) os)
one_more os earlier i o alike lt q =
    let x = get_or os i o in
    in_more q x earlier
    ∙ ap (λ b. same_ref q x || b) (alike q)
    ∙ or_turned (same_ref q x) (is_in q (take i os))
    ∙ ap (λ b. is_in q (take i os) || (same_ref q x || b)) (sym (in_none q))
    ∙ ap (λ b. is_in q (take i os) || b) (sym (in_more q x []))
    ∙ sym (in_both q (take i os) (x ∷ []))
    ∙ ap (λ ys. is_in q (take i os ++ take 1 ys)) (sym (drop-cons os i o lt))
    ∙ ap (is_in q) (sym (take-add i 1 os))

module _ (p : Program) (at_ : Spot) (h : Heap) (kind : CheckKind) (os : List Ref) where
  abbrev tests : List Ref → List Ref → Verdict
  tests earlier rest = verdict at_.line kind (map plain (claim_tests p at_ h earlier rest))

  -- the tests from place i on, behind objects that are those before it, have the verdict of all
  abbrev pub Left : ℕ → Type 0
  Left i = (earlier : List Ref) × Alike earlier (take i os) × (tests earlier (drop i os) ≡ tests [] os)

  pub claims_start : Left 0
  claims_start = ([], λ q. refl, refl)

  module _ (i : ℕ) (far : Left i) where
    module _ (d : Ref) (b : Bool) (lt : i < length os) (is : b ≡ claim_test p at_ h (take i os) (get_or os i d)) where
      behind : claim_test p at_ h far.0 (get_or os i d) ≡ b
      behind = let o = get_or os i d in ap (λ c. is_claimable p o.ty && (closed_in h o && (not c && may_count at_ h o))) (far.1 o) ∙ sym is

      here : one_verdict at_.line kind None b (tests (get_or os i d ∷ far.0) (drop (i + 1) os)) ≡ tests [] os
      here =
          ap (λ c. one_verdict at_.line kind None c (tests (get_or os i d ∷ far.0) (drop (i + 1) os))) (sym behind)
          ∙ ap (λ zs. tests far.0 (get_or os i d ∷ zs)) (λ j. drop (add-one i j) os)
          ∙ ap (tests far.0) (sym (drop-cons os i d lt))
          ∙ far.2

      pub claims_next : b ≡ true → Left (i + 1)
      claims_next e = (
        get_or os i d ∷ far.0,
        one_more os far.0 i d far.1 lt,
        ap (λ c. one_verdict at_.line kind None c (tests (get_or os i d ∷ far.0) (drop (i + 1) os))) (sym e) ∙ here,
      )

      pub claims_fail : b ≡ false → tests [] os ≡ Fails kind at_.line
      claims_fail e = sym here ∙ ap (λ c. one_verdict at_.line kind None c (tests (get_or os i d ∷ far.0) (drop (i + 1) os))) e

    pub claims_end : length os ≤ i → tests [] os ≡ Passes
    claims_end ge = sym far.2 ∙ ap (tests far.0) (drop_all i os ge)

-- one object, from the tests in the code's order: its type, its mode, the earlier ones, its owner's part
module _ (a b c d : Bool) where
  pub claims_no_type : a ≡ false → false ≡ a && (b && (not c && d))
  claims_no_type e = rw e refl

  pub claims_open : a ≡ true → b ≡ false → false ≡ a && (b && (not c && d))
  claims_open e f = rw (e, f) refl

  pub claims_twice : a ≡ true → b ≡ true → c ≡ true → false ≡ a && (b && (not c && d))
  claims_twice e f g = rw (e, f, g) refl

  pub claims_counted : a ≡ true → b ≡ true → c ≡ false → d ≡ a && (b && (not c && d))
  claims_counted e f g = rw (e, f, g) refl
