-- What a row reads off a term is the same in two graphs: sides of equalities, parts of choices.
use Rattle.std.proofs.Common.{◌≡◌, ℕ, List, [], ◌∷◌, Some, slice_get, refl, ap, sym, ◌∙◌, subst}
use Rattle.std.specs.Option.{option_and_then}
use Rattle.terms.specs.declared.term.Term.{Term}
use Rattle.terms.specs.declared.term.Kind.{Kind}
use Rattle.terms.specs.declared.term.Kind.TheVariants.{Eq, Ite}
use Rattle.vcc_rules.specs.Equality.{sides_of, sides}
use Rattle.vcc_rules.specs.Rows.{choice_of, choice}
use Rattle.rule_layouts.specs.Layouts.{SameTree, SameTrees}
use Rattle.rule_layouts.proofs.Trees.{SameNodes, nodes, there, two, three, some_is}

-- which kinds and arguments have parts
sides_are : (k : Kind) (xs : List ℕ) (a b : ℕ) → sides_of k xs ≡ Some (a, b) → (k ≡ Eq) × (xs ≡ a ∷ b ∷ [])
sides_are Eq (x ∷ y ∷ []) a b h = (refl, (let e : (x, y) ≡ (a, b) = some_is (x, y) (a, b) h in λ i. (e i).0 ∷ (e i).1 ∷ []))
sides_are _ _ a b h = absurd (cc)

choice_are : (k : Kind) (xs : List ℕ) (b x y : ℕ) → choice_of k xs ≡ Some (b, x, y) → (k ≡ Ite) × (xs ≡ b ∷ x ∷ y ∷ [])
choice_are Ite (c ∷ d ∷ e ∷ []) b x y h = (refl, (let e' : (c, d, e) ≡ (b, x, y) = some_is (c, d, e) (b, x, y) h in λ i. (e' i).0 ∷ (e' i).1 ∷ (e' i).2 ∷ []))
choice_are _ _ b x y h = absurd (cc)

-- the parts in the other graph
sides_at : (ts us : List Term) (t u a b : ℕ) (n : SameNodes ts us t u) → sides ts t ≡ Some (a, b) → (c d : ℕ) × (sides us u ≡ Some (c, d)) × SameTree ts us a c × SameTree ts us b d
sides_at ts us t u a b n h =
    let e : sides_of n.kind n.args ≡ Some (a, b) = sym (ap (option_and_then (λ (m : Term). sides_of m.kind m.args)) n.is) ∙ h in
    let z = sides_are n.kind n.args a b e in
    let w = two ts us a b n.others (subst (λ (xs : List ℕ). SameTrees ts us xs n.others) z.1 n.trees) in
    let there' : sides us u ≡ sides_of n.kind n.others = ap (option_and_then (λ (m : Term). sides_of m.kind m.args)) n.other in
    (w.0, w.1, there' ∙ (ap (λ k. sides_of k n.others) z.0 ∙ ap (sides_of Eq) w.2), w.3, w.4)

pub sides_same : (ts us : List Term) (t u a b : ℕ) → SameTree ts us t u → sides ts t ≡ Some (a, b) → (c d : ℕ) × (sides us u ≡ Some (c, d)) × SameTree ts us a c × SameTree ts us b d
sides_same ts us t u a b s h = sides_at ts us t u a b (nodes ts us t u s) h

choice_at : (ts us : List Term) (t u b x y : ℕ) (n : SameNodes ts us t u) → choice ts t ≡ Some (b, x, y) → (c v w : ℕ) × (choice us u ≡ Some (c, v, w)) × SameTree ts us b c × SameTree ts us x v × SameTree ts us y w
choice_at ts us t u b x y n h =
    let e : choice_of n.kind n.args ≡ Some (b, x, y) = sym (ap (option_and_then (λ (m : Term). choice_of m.kind m.args)) n.is) ∙ h in
    let z = choice_are n.kind n.args b x y e in
    let w = three ts us b x y n.others (subst (λ (xs : List ℕ). SameTrees ts us xs n.others) z.1 n.trees) in
    let there' : choice us u ≡ choice_of n.kind n.others = ap (option_and_then (λ (m : Term). choice_of m.kind m.args)) n.other in
    (w.0, w.1, w.2, there' ∙ (ap (λ k. choice_of k n.others) z.0 ∙ ap (choice_of Ite) w.3), w.4, w.5, w.6)

pub choice_same : (ts us : List Term) (t u b x y : ℕ) → SameTree ts us t u → choice ts t ≡ Some (b, x, y) → (c v w : ℕ) × (choice us u ≡ Some (c, v, w)) × SameTree ts us b c × SameTree ts us x v × SameTree ts us y w
choice_same ts us t u b x y s h = choice_at ts us t u b x y (nodes ts us t u s) h

-- a term that has parts is there
pub sides_there : (ts : List Term) (t a b : ℕ) → sides ts t ≡ Some (a, b) → (n : Term) × (slice_get ts t ≡ Some n)
sides_there ts t a b h = let z = there (λ (n : Term). sides_of n.kind n.args) (slice_get ts t) (a, b) h in (z.0, z.1)

pub choice_there : (ts : List Term) (t b x y : ℕ) → choice ts t ≡ Some (b, x, y) → (n : Term) × (slice_get ts t ≡ Some n)
choice_there ts t b x y h = let z = there (λ (n : Term). choice_of n.kind n.args) (slice_get ts t) (b, x, y) h in (z.0, z.1)
