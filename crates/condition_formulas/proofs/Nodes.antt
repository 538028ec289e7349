-- In a graph a node is one tree, and a tree one node.
use Rattle.std.specs.Prelude.{ℕ, ℤ, pos, negsuc, List, [], ◌∷◌, ◌≡◌, Bool, true, false, ◌&&◌, nat_eq, Some}
use Rattle.std.proofs.Common.{refl, ap, sym, ◌∙◌, subst, eq-eqb}
use Rattle.std.proofs.lemmas.Bool.{eqb-true}
use Rattle.object_types.specs.Values.{same_int}
use Rattle.method.proofs.Global.{both_and}
use Rattle.terms.specs.declared.term.Term.{Term}
use Rattle.terms.specs.declared.term.Kind.{Kind}
use Rattle.terms.specs.Formula.{Formula, Formulas, Node, Stop, With, Stands, AllStand, term}
use Rattle.conditions.specs.Formulas.{kind_number, same_kind, same, same_all}
use Rattle.conditions.proofs.Same.{same_is}
use Rattle.term_graph.specs.Graph.{IsGraph}
use Rattle.condition_formulas.specs.Standing.{StandsAs}

-- equal terms have equal parts
pub record Parts (k j : Kind) (n m : ℤ) (as' bs : List ℕ) : Type 0 where
  pub kind : k ≡ j
  pub index : n ≡ m
  pub args : as' ≡ bs

pub parts : (k j : Kind) (n m : ℤ) (as' bs : List ℕ) → Some (term k n as') ≡ Some (term j m bs) → Parts k j n m as' bs
parts k j n m as' bs e = record { kind = ap (λ (t : Term). t.kind) (inner e); index = ap (λ (t : Term). t.index) (inner e); args = ap (λ (t : Term). t.args) (inner e) } where
  inner : Some (term k n as') ≡ Some (term j m bs) → term k n as' ≡ term j m bs
  inner e = cc

no_more : (as' : List ℕ) → as' ≡ [] → (b : ℕ) (bs : List ℕ) → as' ≡ b ∷ bs → ⊥
no_more as' none b bs is = cc

mutual
  pub one_tree : (ts : List Term) (a : ℕ) (f g : Formula) → Stands ts a f → Stands ts a g → f ≡ g
  one_tree ts a (Node k n fs) (Node j m gs) (as', is, all) (bs, js, more) =
      let p = parts k j n m as' bs (sym is ∙ js) in
      let rest = all_trees ts bs fs gs (subst (λ (cs : List ℕ). AllStand ts cs fs) p.args all) more in
      ap (λ (i : Kind). Node i n fs) p.kind ∙ ap (λ (z : ℤ). Node j z fs) p.index ∙ ap (λ (hs : Formulas). Node j m hs) rest

  all_trees : (ts : List Term) (as' : List ℕ) (fs gs : Formulas) → AllStand ts as' fs → AllStand ts as' gs → fs ≡ gs
  all_trees ts as' Stop Stop all more = refl
  all_trees ts as' Stop (With g gs) none (b, bs, is, head, tail) = absurd (no_more as' none b bs is)
  all_trees ts as' (With f fs) Stop (a, rest, is, head, tail) none = absurd (no_more as' none a rest is)
  all_trees ts as' (With f fs) (With g gs) (a, rest, is, head, tail) (b, bs, js, first, more) =
      let e : a ∷ rest ≡ b ∷ bs = sym is ∙ js in
      let heads : a ≡ b = cc in
      let tails : rest ≡ bs = cc in
      let one = one_tree ts b f g (subst (λ (c : ℕ). Stands ts c f) heads head) first in
      let others = all_trees ts bs fs gs (subst (λ (cs : List ℕ). AllStand ts cs fs) tails tail) more in
      ap (λ (h : Formula). With h fs) one ∙ ap (λ (hs : Formulas). With g hs) others

mutual
  one_node : (ts : List Term) → IsGraph ts → (a b : ℕ) (f : Formula) → Stands ts a f → Stands ts b f → a ≡ b
  one_node ts graph a b (Node k n fs) (as', is, all) (bs, js, more) =
      let same_args = all_nodes ts graph as' bs fs all more in
      graph.distinct a b (term k n as') is (js ∙ ap (λ (cs : List ℕ). Some (term k n cs)) (sym same_args))

  all_nodes : (ts : List Term) → IsGraph ts → (as' bs : List ℕ) (fs : Formulas) → AllStand ts as' fs → AllStand ts bs fs → as' ≡ bs
  all_nodes ts graph as' bs Stop none empty = none ∙ sym empty
  all_nodes ts graph as' bs (With f fs) (a, rest, is, head, tail) (b, others, js, first, more) =
      is ∙ ap (λ (c : ℕ). c ∷ rest) (one_node ts graph a b f head first) ∙ ap (λ (cs : List ℕ). b ∷ cs) (all_nodes ts graph rest others fs tail more) ∙ sym js

same_int_self : (z : ℤ) → same_int z z ≡ true
same_int_self (pos n) = eq-eqb n n refl
same_int_self (negsuc n) = eq-eqb n n refl

mutual
  same_self : (f : Formula) → same f f ≡ true
  same_self (Node a n fs) = both_and (same_kind a a) (same_int n n && same_all fs fs) (eq-eqb (kind_number a) (kind_number a) refl) (both_and (same_int n n) (same_all fs fs) (same_int_self n) (same_all_self fs))

  same_all_self : (fs : Formulas) → same_all fs fs ≡ true
  same_all_self Stop = refl
  same_all_self (With f fs) = both_and (same f f) (same_all fs fs) (same_self f) (same_all_self fs)

alike : (a b : Bool) → (a ≡ true → b ≡ true) → (b ≡ true → a ≡ true) → a ≡ b
alike true true to from = refl
alike true false to from = sym (to refl)
alike false true to from = from refl
alike false false to from = refl

-- numbers are equal exactly where trees are
pub same_nodes : {ts : List Term} {a b : ℕ} {f g : Formula} → IsGraph ts → StandsAs ts a f → StandsAs ts b g → nat_eq a b ≡ same f g
same_nodes {ts} {a} {b} {f} {g} graph first second =
    alike (nat_eq a b) (same f g)
    (λ e. let trees = one_tree ts b f g (subst (λ (c : ℕ). Stands ts c f) (eqb-true a b e) first.tree) second.tree in subst (λ (h : Formula). same f h ≡ true) trees (same_self f))
    (λ e. eq-eqb a b (one_node ts graph a b f first.tree (subst (λ (h : Formula). Stands ts b h) (sym (same_is f g e)) second.tree)))
