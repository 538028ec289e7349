-- How expressions are worked out one after the other.
use Rattle.std.proofs.Common.{◌≡◌, ℕ, ◌+◌, ◌<◌, ◌≤◌, List, [], ◌∷◌, ◌++◌, length, get_or, drop, sym, ap, ◌∙◌, add-one, drop-cons, append-nil}
use Rattle.std.proofs.lemmas.List.{drop_all}
use Rattle.object_types.specs.declared.values.Value.{Value}
use Rattle.object_types.specs.Heap.{Heap}
use Rattle.method.specs.declared.program.Expr.{Expr}
use Rattle.method.specs.declared.program.Program.{Program}
use Rattle.method.specs.Expressions.{Gives, after, Spot, checks, eval, eval_all}
use Rattle.machine_values.specs.declared.stop.Stop.{Stop}
use Rattle.machine_values.specs.Answers.{Stops}
use Rattle.machine_values.proofs.Outcomes.{stops_after, joined, joined_more}

module _ (p : Program) (at_ : Spot) (h : Heap) (l : List Value) (es : List Expr) (n : ℕ) where
  -- what is left from place i on, with the values so far, is the whole
  abbrev pub Far : List Value → ℕ → Type 0
  Far vs i = (m : ℕ) × (eval_all p at_ h l es n ≡ joined vs (eval_all p at_ h l (drop i es) m))

  module _ (vs : List Value) (i : ℕ) (far : Far vs i) where
    module _ (e : Expr) (lt : i < length es) (item : e ≡ get_or es i e) where
      here : eval_all p at_ h l es n ≡ joined vs (eval_all p at_ h l (e ∷ drop (i + 1) es) far.0)
      here = far.1 ∙ ap (λ xs. joined vs (eval_all p at_ h l xs far.0)) (drop-cons es i e lt ∙ λ j. sym item j ∷ drop (sym (add-one i) j) es)

      pub all_next : (v : Value) (more : List Value) → ((m : ℕ) → eval p at_ h l e m ≡ Gives v) → more ≡ vs ++ v ∷ [] → Far more (i + 1)
      all_next v more gives is = (
        far.0 + checks e,
        here ∙ ap (λ o. joined vs (after o (λ w. after (eval_all p at_ h l (drop (i + 1) es) (far.0 + checks e)) (λ ws. Gives (w ∷ ws))))) (gives far.0)
            ∙ joined_more vs v (eval_all p at_ h l (drop (i + 1) es) (far.0 + checks e))
            ∙ ap (λ us. joined us (eval_all p at_ h l (drop (i + 1) es) (far.0 + checks e))) (sym is),
      )

      pub all_stops : (s : Stop) → ((m : ℕ) → Stops s (eval p at_ h l e m)) → Stops s (eval_all p at_ h l es n)
      all_stops s stops = rw here (stops_after s _ _ (stops_after s (eval p at_ h l e far.0) _ (stops far.0)))

    pub all_end : length es ≤ i → eval_all p at_ h l es n ≡ Gives vs
    all_end ge = far.1 ∙ ap (λ xs. joined vs (eval_all p at_ h l xs far.0)) (drop_all i es ge) ∙ ap Gives (append-nil vs)
