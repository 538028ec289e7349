-- A loop's invariants, and one more.
use Rattle.std.proofs.Common.{◌≡◌, ℕ, ◌+◌, List, [], ◌∷◌, ◌++◌, refl, sym, ap, ◌∙◌, arith, map}
use Rattle.c_syntax.specs.Statements.{Inv}
use Rattle.elab_annotations.specs.Typing.{pushed}
use Rattle.elab_annotations.specs.Views.{Several}
use Rattle.typed_program.specs.Annotations.{formulas, spec}
use Rattle.typed_program.specs.Numbers.{Around}
use Rattle.typed_program.specs.Shapes.{numbered}
use Rattle.typed_program.specs.Statements as s
use Rattle.typed_program.specs.Statements.{in_invariants}
use Rattle.typed_program.specs.Trees as t
use Rattle.elab_clauses.specs.Numberings.{Numbering, typed_said, said_invariants}

pub formulas_more : (xs : List Inv) (y : Inv) → in_invariants (xs ++ y ∷ []) ≡ in_invariants xs + formulas y.property
formulas_more [] y = omega arith
formulas_more (x ∷ xs) y = let h = formulas_more xs y in omega (arith, h)

invariants_more : (a : Around) (n : ℕ) (xs : List Inv) (y : Inv) → s.invariants a n (xs ++ y ∷ []) ≡ s.invariants a n xs ++ spec a (n + in_invariants xs) y.property ∷ []
invariants_more a n [] y = ap (λ m. spec a m y.property ∷ []) (omega arith)
invariants_more a n (x ∷ xs) y = ap (λ (zs : List t.Spec). spec a n x.property ∷ zs) (invariants_more a (n + formulas x.property) xs y ∙ ap (λ m. s.invariants a (n + formulas x.property) xs ++ spec a m y.property ∷ []) (omega arith))

numbered_more : (k : Numbering) (xs : List t.Spec) (y : t.Spec) → map (numbered k.shapes k.sorts) (xs ++ y ∷ []) ≡ map (numbered k.shapes k.sorts) xs ++ numbered k.shapes k.sorts y ∷ []
numbered_more k [] y = refl
numbered_more k (x ∷ xs) y = ap (λ (zs : List t.Spec). numbered k.shapes k.sorts x ∷ zs) (numbered_more k xs y)

-- several in a row, which are the same part by part
abbrev pub several : List t.Spec → ℕ → Several
several xs n = record { specs = xs; next = n }

pub alike : {xs ys : List t.Spec} {m n : ℕ} → xs ≡ ys → m ≡ n → several xs m ≡ several ys n
alike p q = λ i. several (p i) (q i)

pub no_invariants : (k : Numbering) (a : Around) (n : ℕ) → several [] n ≡ said_invariants k a n []
no_invariants k a n = alike refl (omega arith)

pub invariants_law : (k : Numbering) (a : Around) (n : ℕ) (xs : List Inv) (y : Inv) → pushed (said_invariants k a n xs) (typed_said k a (n + in_invariants xs) y.property) ≡ said_invariants k a n (xs ++ y ∷ [])
invariants_law k a n xs y =
    alike (sym (ap (map (numbered k.shapes k.sorts)) (invariants_more a n xs y) ∙ numbered_more k (s.invariants a n xs) (spec a (n + in_invariants xs) y.property))) (let h = formulas_more xs y in omega (arith, h))
