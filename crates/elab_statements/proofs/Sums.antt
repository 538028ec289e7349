-- Sums of what stands before a place.
use Rattle.std.proofs.Common.{◌≡◌, ℕ, ◌+◌, List, [], ◌∷◌, ◌++◌, refl, sym, ap, ◌∙◌, arith}
use Rattle.c_syntax.specs.Ghosts.{GStm}
use Rattle.c_syntax.specs.Statements.{Inv, Stm}
use Rattle.c_syntax.specs.Grammar.{ghosts_of, stms_of}
use Rattle.typed_program.specs.Annotations.{formulas}
use Rattle.typed_program.specs.Statements.{Counters, none, plus, plus_formulas, some_formulas, in_ghost, in_ghosts, in_statement, in_statements, in_invariants}

abbrev standing : ℕ → ℕ → ℕ → Counters
standing a b c = record { formulas = a; ended = b; sites = c }

same : {a b c d e f : ℕ} → a ≡ b → c ≡ d → e ≡ f → standing a c e ≡ standing b d f
same p q r = λ i. standing (p i) (q i) (r i)

pub plus_none : (n : Counters) → n ≡ plus n none
plus_none n = same (omega arith) (omega arith) (omega arith)

pub plus_assoc : (l m n : Counters) → plus (plus l m) n ≡ plus l (plus m n)
plus_assoc l m n = same (omega arith) (omega arith) (omega arith)

-- so many formulas more are some formulas more
pub plus_some : (n : Counters) (k : ℕ) → plus_formulas n k ≡ plus n (some_formulas k)
plus_some n k = same refl (omega arith) (omega arith)

none_plus : (n : Counters) → plus none n ≡ n
none_plus n = same (omega arith) (omega arith) (omega arith)

-- ---- with one more

pub ghosts_more : (ss : List GStm) (y : GStm) → in_ghosts (ghosts_of (ss ++ y ∷ [])) ≡ plus (in_ghosts (ghosts_of ss)) (in_ghost y)
ghosts_more [] y = sym (plus_none (in_ghost y)) ∙ sym (none_plus (in_ghost y))
ghosts_more (s ∷ ss) y = ap (plus (in_ghost s)) (ghosts_more ss y) ∙ sym (plus_assoc (in_ghost s) (in_ghosts (ghosts_of ss)) (in_ghost y))

pub statements_more : (ss : List Stm) (y : Stm) → in_statements (stms_of (ss ++ y ∷ [])) ≡ plus (in_statements (stms_of ss)) (in_statement y)
statements_more [] y = sym (plus_none (in_statement y)) ∙ sym (none_plus (in_statement y))
statements_more (s ∷ ss) y = ap (plus (in_statement s)) (statements_more ss y) ∙ sym (plus_assoc (in_statement s) (in_statements (stms_of ss)) (in_statement y))

pub invariants_more : (xs : List Inv) (y : Inv) → in_invariants (xs ++ y ∷ []) ≡ in_invariants xs + formulas y.property
invariants_more [] y = omega arith
invariants_more (x ∷ xs) y = let h = invariants_more xs y in omega (arith, h)

-- behind one more
pub behind_ghosts_more : (n : Counters) (ss : List GStm) (y : GStm) → plus (plus n (in_ghosts (ghosts_of ss))) (in_ghost y) ≡ plus n (in_ghosts (ghosts_of (ss ++ y ∷ [])))
behind_ghosts_more n ss y = plus_assoc n (in_ghosts (ghosts_of ss)) (in_ghost y) ∙ ap (plus n) (sym (ghosts_more ss y))

pub behind_statements_more : (n : Counters) (ss : List Stm) (y : Stm) → plus (plus n (in_statements (stms_of ss))) (in_statement y) ≡ plus n (in_statements (stms_of (ss ++ y ∷ [])))
behind_statements_more n ss y = plus_assoc n (in_statements (stms_of ss)) (in_statement y) ∙ ap (plus n) (sym (statements_more ss y))

pub behind_invariants_more : (n : ℕ) (xs : List Inv) (y : Inv) → (n + in_invariants xs) + formulas y.property ≡ n + in_invariants (xs ++ y ∷ [])
behind_invariants_more n xs y = let h = invariants_more xs y in omega (arith, h)
