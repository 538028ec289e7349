-- The axioms of quantified formulas are true.
use Rattle.std.proofs.Common.{◌≡◌, ℕ, suc, inl, inr, List, [], ◌∷◌, ◌++◌, drop, pos, Option, Some, slice_get, subst, arith}
use Rattle.object_types.specs.declared.references.Ref.{Ref}
use Rattle.terms.specs.declared.term.Kind.TheVariants as k
use Rattle.terms.specs.Formula.{Formula, Node}
use Rattle.term_meaning.specs.Meaning.{Value, Env, IsEnv, ref_value, Language, Quantified, AllHolds, InvHolds, BodyHolds, ForEach, IsLeastFailure}
use Rattle.term_meaning.specs.Filling.{fill, trees, IsLayered}
use Rattle.term_meaning.proofs.Values.{body_stable}
use Rattle.term_meaning.proofs.Filled.{later_same, this_one, says_true, true_says}
use Rattle.axiom_instances.specs.Axioms.{axiom_1, axiom_2}
use Rattle.axiom_instances.proofs.Kit.{Has, HaveAll, Holds, Given, RowHolds, node_given, node_holds, node_value, holds_by, behind, imp_holds, gives_holds, ref_holds, quantified_holds}

module _ {l : Language} {e : Env} (env : IsEnv l.program e) (layered : IsLayered l) (tree : ℕ → Option Formula) where
  later : ℕ → ℕ → List Value → Type 0
  later n = BodyHolds l.program e.me (suc n) (drop (suc n) l.quantified)

  -- the body of the formula at a place, with terms in its holes
  body_holds : (n : ℕ) (q : Quantified) (ts : List Formula) (vs : List Value) → slice_get l.quantified n ≡ Some q → HaveAll l e (trees ts) vs → AllHolds l e.me n vs → Holds l e (fill ts q.body)
  unfolding later
  body_holds n q ts vs is m says = record {
    always = λ y g. says_true l.program (AllHolds l e.me) (later n) (InvHolds l e.me) e ts vs m.values (suc n)
        (λ k xs below. later_same l.program e.me l.quantified n 0 n (omega arith) k xs below)
        (body_stable l.program e.me (suc n) (drop (suc n) l.quantified)) q.body y (layered.bodies n q is)
        ((this_one l.program e.me l.quantified n 0 n q (omega arith) is vs).0 says) g;
  }

  body_given : (n : ℕ) (q : Quantified) (ts : List Formula) (vs : List Value) → slice_get l.quantified n ≡ Some q → HaveAll l e (trees ts) vs → Given l e (fill ts q.body) → AllHolds l e.me n vs
  unfolding later
  body_given n q ts vs is m g =
      (this_one l.program e.me l.quantified n 0 n q (omega arith) is vs).1
      (true_says l.program (AllHolds l e.me) (later n) (InvHolds l e.me) e ts vs m.values (suc n)
      (λ k xs below. later_same l.program e.me l.quantified n 0 n (omega arith) k xs below)
      q.body g.value (layered.bodies n q is) g.gives g.holds)

  pub holds_1 : RowHolds l e (axiom_1 l tree)
  holds_1 = quantified_holds env tree _ (λ n q args vs is m. ref_holds env tree (λ o r b i. gives_holds (imp_holds (λ g.
      let d = node_given m g in
      body_holds n q (args ++ o ∷ []) (vs ++ ref_value r ∷ []) is (behind args m b) (d.1.yes d.2 r i)))))

  pub holds_2 : RowHolds l e (axiom_2 l tree)
  holds_2 = quantified_holds env tree _ (λ n q args vs is m. gives_holds (holds_by {f = Node k.Cex (pos n) (trees args)} (λ x c. imp_holds (λ g.
      let w = node_value m c in
      let c_is : Has l e (Node k.Cex (pos n) (trees args)) (ref_value w.0) = subst (λ x. Has l e (Node k.Cex (pos n) (trees args)) x) w.1 c in
      let there : AllHolds l e.me n (vs ++ ref_value w.0 ∷ []) = body_given n q (args ++ Node k.Cex (pos n) (trees args) ∷ []) (vs ++ ref_value w.0 ∷ []) is (behind args m c_is) g in
      node_holds m (λ z d. d.holds (everywhere (λ r. AllHolds l e.me n (vs ++ ref_value r ∷ [])) w.0 w.2 there))))))
    where
      everywhere : (P : Ref → Type 0) (r : Ref) → IsLeastFailure P r → P r → ForEach P
      everywhere P r (inl f) there = absurd (f.1 there)
      everywhere P r (inr f) there = f.0
