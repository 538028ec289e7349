-- The sides of comparisons are the same in two graphs.
use Rattle.std.proofs.Common.{◌≡◌, ℕ, List, [], ◌∷◌, Some, slice_get, refl, ap, sym, ◌∙◌, subst}
use Rattle.std.specs.Option.{option_and_then}
use Rattle.terms.specs.declared.term.Term.{Term}
use Rattle.terms.specs.declared.term.Kind.{Kind}
use Rattle.terms.specs.declared.term.Kind.TheVariants.{Le}
use Rattle.rule_linear.specs.Rows.{compared_of, compared}
use Rattle.rule_layouts.specs.Layouts.{SameTree, SameTrees}
use Rattle.rule_layouts.proofs.Trees.{SameNodes, nodes, there, two, some_is}

compared_are : (k : Kind) (xs : List ℕ) (a b : ℕ) → compared_of k xs ≡ Some (a, b) → (k ≡ Le) × (xs ≡ a ∷ b ∷ [])
compared_are Le (x ∷ y ∷ []) a b h = (refl, (let e : (x, y) ≡ (a, b) = some_is (x, y) (a, b) h in λ i. (e i).0 ∷ (e i).1 ∷ []))
compared_are _ _ a b h = absurd (cc)

compared_at : (ts us : List Term) (t u a b : ℕ) (n : SameNodes ts us t u) → compared ts t ≡ Some (a, b) → (c d : ℕ) × (compared us u ≡ Some (c, d)) × SameTree ts us a c × SameTree ts us b d
compared_at ts us t u a b n h =
    let e : compared_of n.kind n.args ≡ Some (a, b) = sym (ap (option_and_then (λ (m : Term). compared_of m.kind m.args)) n.is) ∙ h in
    let z = compared_are n.kind n.args a b e in
    let w = two ts us a b n.others (subst (λ (xs : List ℕ). SameTrees ts us xs n.others) z.1 n.trees) in
    let there' : compared us u ≡ compared_of n.kind n.others = ap (option_and_then (λ (m : Term). compared_of m.kind m.args)) n.other in
    (w.0, w.1, there' ∙ (ap (λ k. compared_of k n.others) z.0 ∙ ap (compared_of Le) w.2), w.3, w.4)

pub compared_same : (ts us : List Term) (t u a b : ℕ) → SameTree ts us t u → compared ts t ≡ Some (a, b) → (c d : ℕ) × (compared us u ≡ Some (c, d)) × SameTree ts us a c × SameTree ts us b d
compared_same ts us t u a b s h = compared_at ts us t u a b (nodes ts us t u s) h

pub compared_there : (ts : List Term) (t a b : ℕ) → compared ts t ≡ Some (a, b) → (n : Term) × (slice_get ts t ≡ Some n)
compared_there ts t a b h = let z = there (λ (n : Term). compared_of n.kind n.args) (slice_get ts t) (a, b) h in (z.0, z.1)
