-- What an equality says of its sides.
use Rattle.std.proofs.Common.{◌≡◌, ℕ, List, [], ◌∷◌, map, Some, None, Option, slice_get, refl, ap, subst, ℤ}
use Rattle.std.specs.Option.{option_and_then}
use Rattle.terms.specs.declared.term.Term.{Term}
use Rattle.terms.specs.declared.term.Kind.{Kind}
use Rattle.terms.specs.declared.term.Kind.TheVariants.{Eq}
use Rattle.term_meaning.specs.Meaning.{Language, Env, Value, Decides, Means, IsValuation}
use Rattle.vcc_rules.specs.Equality.{sides_of, sides}

same_means : (language : Language) (e : Env) (k : Kind) (i : ℤ) (xs : List ℕ) (v : ℕ → Value) (x : Value) (a b : ℕ) → sides_of k xs ≡ Some (a, b) → Means language e k i (map v xs) x → Decides x (v a ≡ v b)
same_means language e Eq i (c ∷ d ∷ []) v x a b h m =
    let w : (c, d) ≡ (a, b) = cc in
    let p : c ≡ a = ap (λ (p : ℕ × ℕ). p.0) w in
    let q : d ≡ b = ap (λ (p : ℕ × ℕ). p.1) w in
    subst (λ (a : ℕ). Decides x (v a ≡ v b)) p (subst (λ (b : ℕ). Decides x (v c ≡ v b)) q m)
same_means language e Eq i [] v x a b h m = cc
same_means language e Eq i (c ∷ []) v x a b h m = cc
same_means language e Eq i (c ∷ d ∷ f ∷ xs) v x a b h m = cc
same_means language e _ i xs v x a b h m = cc

says_at : (language : Language) (e : Env) (v : ℕ → Value) (terms : List Term) (t a b : ℕ) → IsValuation language e terms v → (o : Option Term) → slice_get terms t ≡ o → option_and_then (λ (n : Term). sides_of n.kind n.args) o ≡ Some (a, b) → Decides (v t) (v a ≡ v b)
says_at language e v terms t a b valued None g h = cc
says_at language e v terms t a b valued (Some n) g h = same_means language e n.kind n.index n.args v (v t) a b h (valued.term t n g)

-- an equality is true exactly where its sides have one value
pub says : (language : Language) (e : Env) (v : ℕ → Value) (terms : List Term) (t a b : ℕ) → IsValuation language e terms v → sides terms t ≡ Some (a, b) → Decides (v t) (v a ≡ v b)
says language e v terms t a b valued h = says_at language e v terms t a b valued (slice_get terms t) refl h
