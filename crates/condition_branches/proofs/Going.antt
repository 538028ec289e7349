-- Ways that a walk enters and ends.
use Rattle.std.specs.Prelude.{ℕ, List, [], ◌∷◌, ◌≡◌, ◌++◌, length}
use Rattle.std.proofs.Common.{refl, ap, sym, ◌∙◌, subst}
use Rattle.std.proofs.lemmas.List.{append_assoc}
use Rattle.terms.specs.declared.term.Term.{Term}
use Rattle.terms.specs.Formula.{Formula}
use Rattle.conditions.specs.Code as spec
use Rattle.conditions.specs.Paths.{Fact, Branch, Done, Execution, facts}
use Rattle.condition_formulas.specs.Standing.{StandsAs, StandAll}
use Rattle.condition_code.specs.declared.state.State.{State}
use Rattle.condition_code.specs.declared.walk.Step.{Step}
use Rattle.condition_code.specs.declared.walk.Step.TheVariants as code
use Rattle.condition_code.specs.declared.walk.Walk.{Walk}
use Rattle.condition_code.specs.Steps.{Known}
use Rattle.condition_code.specs.States.{IsState}
use Rattle.condition_code.specs.Walks.{EachStep, Goes, Went, Marks, Ran}
use Rattle.condition_code.proofs.Walks.{by_fact, built_then, goes_then, branched}
use Rattle.condition_branches.specs.declared.ways.Way.{Way}
use Rattle.condition_branches.specs.Ways.{Begins, EndsWay}

-- one fact was written
record OneFact (ts : List Term) (more : List Step) (f : Formula) : Type 0 where
  id : ℕ
  is : more ≡ code.Fact id ∷ []
  stands : StandsAs ts id f

one_fact : (ts : List Term) (more : List Step) (f : Formula) → EachStep ts more (Known f ∷ []) → OneFact ts more f
one_fact ts [] f h = absurd h
one_fact ts (code.Check id ∷ cs) f h = absurd h.0.is
one_fact ts (code.Fact id ∷ []) f h = record { id = id; is = refl; stands = h.0.is }
one_fact ts (code.Fact id ∷ c ∷ cs) f h = absurd h.1
one_fact ts (code.Standalone id ∷ cs) f h = absurd h.0.is
one_fact ts (code.Enter ∷ cs) f h = absurd h.0.is
one_fact ts (code.Leave ∷ cs) f h = absurd h.0.is

-- a walk behind the mark and the fact has begun the way
pub begins : {start mid behind : Walk} {from : ℕ} {f : Formula} → Marks code.Enter start mid → Went mid behind (Fact f Done) → from ≡ length behind.path.items → Begins start behind from f
begins {start} {mid} {behind} {from} {f} mark went there =
    let one = one_fact behind.graph went.more f went.steps.each in
    record {
      test = one.id;
      later = λ n g h. went.later n g (subst (λ (ts : List Term). StandsAs ts n g) (sym mark.graph) h);
      stands = one.stands;
      path = went.path ∙ ap (λ (p : List Step). p ++ went.more) mark.path ∙ ap (λ (p : List Step). (start.path.items ++ code.Enter ∷ []) ++ p) one.is ∙ append_assoc start.path.items (code.Enter ∷ []) (code.Fact one.id ∷ []);
      place = sym there;
    }

-- the way that was gone since then, between its marks
way_gone : (walk : Walk) {start behind : Walk} {from : ℕ} {f : Formula} {st : State} {x : Execution spec.State} {p : List Step} → Begins start behind from f → Ran IsState behind walk st x → p ≡ walk.path.items ++ code.Leave ∷ [] → Goes start.graph walk.graph start.path.items p (Branch (Fact f x.path) Done)
way_gone walk {start} {behind} {f = f} {x = x} b ran leave =
    let inside : List Step = start.path.items ++ code.Enter ∷ [] in
    let split : behind.path.items ≡ inside ++ code.Fact b.test ∷ [] = b.path ∙ sym (append_assoc start.path.items (code.Enter ∷ []) (code.Fact b.test ∷ [])) in
    let first : Goes start.graph behind.graph inside behind.path.items (Fact f Done) = built_then b.later (by_fact split b.stands) in
    branched refl (goes_then first ran.goes) leave

pub ends : {start behind walk new : Walk} {from : ℕ} {f : Formula} {x : Execution spec.State} {w : Way} → Begins start behind from f → Ran IsState behind walk w.state x → Marks code.Leave walk new → StandAll walk.graph w.facts.items (facts x.path) → EndsWay start new w f x
ends {start} {behind} {walk} {new} {f = f} {x = x} {w = w} b ran mark known = record {
  went = subst (λ (ts : List Term). Goes start.graph ts start.path.items new.path.items (Branch (Fact f x.path) Done)) (sym mark.graph) (way_gone walk b ran mark.path);
  way = record {
    state = subst (λ (ts : List Term). IsState ts w.state x.gives) (sym mark.graph) ran.gives;
    facts = subst (λ (ts : List Term). StandAll ts w.facts.items (facts x.path)) (sym mark.graph) known;
  };
}
