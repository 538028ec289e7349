-- Steps one after the other.
use Rattle.std.specs.Prelude.{◌≡◌, ◌<◌, ℕ, ℤ, pos, negsuc, Bool, true, false, List, [], ◌∷◌, ◌-◌, length, Option, Some, None, MatchOption, option_map, option_and_then, slice_get}
use Rattle.std.proofs.Common.{refl, ap, ◌∙◌, subst, arith}
use Rattle.terms.specs.declared.sort.Sort.{Sort}
use Rattle.terms.specs.declared.term.Term.{Term}
use Rattle.terms.specs.Formula.{Formula}
use Rattle.term_meaning.specs.Meaning.{Language}
use Rattle.axiom_instances.specs.Fitting.{needs, gives}
use Rattle.condition_formulas.specs.Standing.{Later}
use Rattle.axiom_steps.specs.declared.steps.Step.{Step}
use Rattle.axiom_steps.specs.Steps.{State, from_last, naturals, run, start, at, IsRow, natural, instance_at}
use Rattle.rule_instances.specs.declared.walk.State.{State as Code}
use Rattle.rule_instances.specs.declared.block.Block.{Block}
use Rattle.rule_instances.specs.Reading.{IsBlock, IsName}
use Rattle.rule_instances.specs.Walking.{Matches, Goes, Stops, Went}
use Rattle.rule_instances.specs.Instances.{Runs, IsInstance, Instantiates}
use Rattle.rule_instances.proofs.Going.{from_end, none_from_end}
use Rattle.rule_instances.proofs.Reading.{rows_agree, there, missing}

-- names name on when the graph grows
name_later : {old new : List Term} (sorts : List (Option Sort)) (l : Language) (tree : Option Formula) → Later old new → (id : Option ℕ) → MatchOption id (tree ≡ None) (λ i. IsName old sorts l i tree) → MatchOption id (tree ≡ None) (λ i. IsName new sorts l i tree)
name_later sorts l tree later None e = e
name_later sorts l tree later (Some id) name = record { formula = name.formula; is = name.is; stands = later id name.formula name.stands; sort = name.sort }

pub block_later : {block : Block} {old new : List Term} {l : Language} {tree : ℕ → Option Formula} → Later old new → IsBlock block old l tree → IsBlock block new l tree
block_later {block} {old} {new} {l} {tree} later is = record {
  program = is.program;
  language = is.language;
  names = λ n. name_later block.sorts.now l (tree n) later (slice_get block.names.now n) (is.names n);
}

-- what is left of the steps makes the whole of the numbers that are left
pub record Onward (l : Language) (tree : ℕ → Option Formula) (rest : List Step) (ts : List Term) (c : Code) (now : List ℤ) (whole : Option Formula) : Type 0 where
  pub state : State
  pub matches : Matches ts c state
  pub goes : whole ≡ at (run l tree rest state) now

pub begun : {ts : List Term} {c : Code} (l : Language) (tree : ℕ → Option Formula) (steps : List Step) (numbers : List ℤ) → Matches ts c start → Onward l tree steps ts c numbers (at (run l tree steps start) numbers)
begun l tree steps numbers m = record { state = start; matches = m; goes = refl }

pub gone : {l : Language} {tree : ℕ → Option Formula} {left rest : List Step} {step : Step} {ts new : List Term} {c after : Code} {now next : List ℤ} {whole : Option Formula} {went : Bool} → (o : Onward l tree left ts c now whole) → left ≡ step ∷ rest → Went l tree step new after now next o.state went → went ≡ true → Onward l tree rest new after next whole
gone {l} {tree} {rest = rest} {step} {new = new} {after = after} {now} {next} {went = went} o e h is =
    let one : Goes l tree step new after now next o.state = subst (λ (b : Bool). Went l tree step new after now next o.state b) is h in
    record { state = one.next; matches = one.matches; goes = o.goes ∙ ap (λ (ss : List Step). at (run l tree ss o.state) now) e ∙ one.goes rest }

pub stopped : {l : Language} {tree : ℕ → Option Formula} {left rest : List Step} {step : Step} {ts : List Term} {c : Code} {now : List ℤ} {whole : Option Formula} {went : Bool} (new : List Term) (after : Code) (next : List ℤ) → (o : Onward l tree left ts c now whole) → left ≡ step ∷ rest → Went l tree step new after now next o.state went → went ≡ false → whole ≡ None
stopped {l} {tree} {rest = rest} {step} {now = now} {went = went} new after next o e h is =
    let none : Stops l tree step now o.state = subst (λ (b : Bool). Went l tree step new after now next o.state b) is h in
    o.goes ∙ ap (λ (ss : List Step). at (run l tree ss o.state) now) e ∙ none.none rest

-- The end.
by_rest : (f : Formula) (n : ℕ) (found : Option (List ℕ)) → option_and_then (gives f) (option_map (λ ns. n ∷ ns) found) ≡ None
unfolding gives
by_rest f n None = refl
by_rest f n (Some ns) = refl

more_refused : (f : Formula) (z : ℤ) (zs : List ℤ) → at (gives f) (z ∷ zs) ≡ None
more_refused f (pos n) zs = by_rest f n (naturals zs)
more_refused f (negsuc n) zs = refl

pub left_over : {l : Language} {tree : ℕ → Option Formula} {left : List Step} {ts : List Term} {c : Code} {now : List ℤ} {whole : Option Formula} → Onward l tree left ts c now whole → left ≡ [] → 0 < length now → whole ≡ None
left_over {l} {tree} {now = now} o e more = o.goes ∙ ap (λ (ss : List Step). at (run l tree ss o.state) now) e ∙ by_last (from_last 1 o.state.terms) now more
  where
    by_last : (found : Option Formula) (zs : List ℤ) → 0 < length zs → at (needs found gives) zs ≡ None
    by_last found [] more = absurd (omega arith)
    by_last None (z ∷ zs) more = missing gives None refl (z ∷ zs)
    by_last (Some f) (z ∷ zs) more = there gives (Some f) f refl (z ∷ zs) ∙ more_refused f z zs

one_given : (f : Formula) → at (gives f) [] ≡ Some f
unfolding gives
one_given f = refl

no_numbers : (xs : List ℤ) → (0 < length xs → ⊥) → xs ≡ []
no_numbers [] none = refl
no_numbers (x ∷ xs) none = absurd (none (omega arith))

-- the last formula is the whole
pub arrived : {l : Language} {tree : ℕ → Option Formula} {left : List Step} {ts : List Term} {c : Code} {now : List ℤ} {whole : Option Formula} {id : Option ℕ} → Onward l tree left ts c now whole → left ≡ [] → (0 < length now → ⊥) → id ≡ slice_get c.terms.items (length c.terms.items - 1) → IsInstance ts id whole
arrived {l} {tree} {ts = ts} {c} {now} {whole} {id} o e none is = by_id id is
  where
    whole_is : whole ≡ at (needs (from_last 1 o.state.terms) gives) []
    whole_is = o.goes ∙ ap (λ (ss : List Step). at (run l tree ss o.state) now) e ∙ ap (λ (zs : List ℤ). at (needs (from_last 1 o.state.terms) gives) zs) (no_numbers now none)

    by_id : (found : Option ℕ) → found ≡ slice_get c.terms.items (length c.terms.items - 1) → IsInstance ts found whole
    by_id None e' = record { is = whole_is ∙ missing gives (from_last 1 o.state.terms) (none_from_end ts c.terms.items o.state.terms 1 o.matches.terms e') [] }
    by_id (Some i) e' =
        let one = from_end ts c.terms.items o.state.terms 1 i o.matches.terms e' in
        record { is = (one.0, whole_is ∙ there gives (from_last 1 o.state.terms) one.0 one.1 [] ∙ one_given one.0, one.2) }

-- the steps of an axiom's part make its instances
pub instantiated : {block : Block} {ts now : List Term} {steps : List Step} {id : Option ℕ} (n part : ℤ) (numbers : List ℤ) → IsRow steps (natural n) (natural part) → Runs block steps ts now numbers id → Instantiates block ts now n part numbers id
instantiated {now = now} {steps} {id} n part numbers row runs = λ l tree is. subst (λ (o : Option Formula). IsInstance now id o) (same l tree) (runs l tree is)
  where
    same : (l : Language) (tree : ℕ → Option Formula) → at (run l tree steps start) numbers ≡ instance_at l tree n part numbers
    same l tree = rows_agree _ _ (row.same l tree) numbers
