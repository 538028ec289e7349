-- How a turn goes on behind a value, a check or an action, in the code and in method.
use Rattle.std.proofs.Common.{◌≡◌, ℕ, List, [], ◌∷◌, ◌++◌, Option, Result, Vec, Global, refl, sym, ap, subst}
use Rattle.object_types.specs.declared.references.Ref.{Ref}
use Rattle.object_types.specs.declared.records.Stored.{Stored}
use Rattle.object_types.specs.declared.values.Value.{Value}
use Rattle.object_types.specs.Heap.{Heap, IsFinite}
use Rattle.method.specs.declared.program.CheckKind.{CheckKind}
use Rattle.method.specs.declared.program.Program.{Program}
use Rattle.method.specs.Expressions.{Outcome, Gives, after, Spot, Tested, check_specs}
use Rattle.method.specs.Actions as act
use Rattle.method.specs.Machine as m
use Rattle.machine_values.specs.declared.spot.Spot.{Spot as CodeSpot}
use Rattle.machine_values.specs.declared.spot.Context.{Context as CodeContext}
use Rattle.machine_values.specs.declared.stop.Stop.{Stop}
use Rattle.machine_values.specs.Spots.{heap_at, context_at, spot_at}
use Rattle.machine_values.specs.Answers.{Stops, Passes, verdict}
use Rattle.machine_values.proofs.Verdicts.{checks_pass}
use Rattle.machine_objects.specs.declared.progress.Progress.{Progress}
use Rattle.machine_objects.specs.Runs.{Extra, progress_at, contexts_at, Follows, Lands, Reading, Runs, RunsOr}
use Rattle.machine_objects.proofs.Landing.{then_lands, of_follower}
use Rattle.machine_turns.specs.declared.activation.Activation.{Activation}
use Rattle.machine_turns.specs.declared.activation.Remaining.{Remaining}
use Rattle.machine_turns.specs.declared.turn.Turn.{Turn}
use Rattle.machine_turns.specs.Frames.{ahead, frame_at}
use Rattle.machine_turns.specs.Turns.{IsHeap, Framed, Turned, IsMoved, IsActed, IsCalled, IsReturned, IsStoredTurn, plain, IsStarting, behind, put_onto}

-- what holds of a place as the code has it, holds of it as method has it
pub at_spot : (P : Program → Spot → Type 0) (p q : Program) (s t : Spot) → p ≡ q → s ≡ t → P p s → P q t
at_spot P p q s t ep et h = subst (λ z. P q z) et (subst (λ z. P z s) ep h)

pub gives_lands : {A B : Type 0} (Q : B → Type 0) (o : Outcome A) (f : A → Outcome B) (a : A) → o ≡ Gives a → Lands Q (f a) → Lands Q (after o f)
gives_lands Q o f a e h = subst (Lands Q) (sym (ap (λ z. after z f) e)) h

pub gives : {A : Type 0} (Q : A → Type 0) (a : A) → Q a → Lands Q (Gives a)
gives Q a h = record { fits = refl; gave = h }

-- behind checks that pass
module _ {A : Type 0} (at_ : Spot) (kind : CheckKind) (o : Outcome A) (ts : List Tested) (n : ℕ) (passes : verdict at_.line kind ts ≡ Passes) where
  pub passed_stops : (s : Stop) → Stops s o → Stops s (check_specs at_ ts n kind o)
  passed_stops s h = subst (Stops s) (sym (checks_pass at_ kind o ts n passes)) h

  pub passed_comes : (P : Outcome A → Type 0) → P o → P (check_specs at_ ts n kind o)
  passed_comes P h = subst P (sym (checks_pass at_ kind o ts n passes)) h

  pub passed_lands : (Q : A → Type 0) → Lands Q o → Lands Q (check_specs at_ ts n kind o)
  passed_lands Q h = subst (Lands Q) (sym (checks_pass at_ kind o ts n passes)) h

module _ (p : Program) (t : Turn) (a : m.Activation) (code : List m.Remaining) (below : List m.Activation) (before : Heap) (line : ℕ) (rs : Vec Remaining Global) where
  abbrev Made : m.Turn → Type 0
  Made = Turned t a code below before

  module _ (is : IsMoved t line rs) where
    one_moved : (full : List m.Remaining) → full ≡ ahead rs.items ++ code → Made (m.moved p line a full below before)
    one_moved full ec = record {
      heap = subst (λ z. IsHeap z before before) (sym is.heap) refl;
      frames = subst (λ z. Framed z a code below (m.went a a.locals full ∷ below)) (sym is.frames) (λ i. m.went a a.locals (ec i) ∷ below);
      lists = [];
      started = subst (λ z. [] ≡ contexts_at [] z) (sym is.started) refl;
      line = sym is.line;
    }

    -- a turn that moves on alone
    pub moved : (full : List m.Remaining) → full ≡ ahead rs.items ++ code → Lands Made (Gives (m.moved p line a full below before))
    moved full ec = gives Made (m.moved p line a full below before) (one_moved full ec)

    -- the same behind a value
    pub value_moved : (o : Outcome Value) (full : Value → List m.Remaining) (v : Value) → o ≡ Gives v → full v ≡ ahead rs.items ++ code → Lands Made (after o (λ v. Gives (m.moved p line a (full v) below before)))
    value_moved o full v e ec = gives_lands Made o _ v e (moved (full v) ec)

  -- a turn that took an action
  module _ (c : Progress) (is : IsActed t line c rs) (full : List m.Remaining) (ec : full ≡ ahead rs.items ++ code) where
    abbrev reached : act.Progress → m.Turn
    reached g = record { heap = g.heap; frames = m.went a g.locals full ∷ below; started = g.started; line = line }

    one_acted : (e : Extra) → IsFinite (heap_at e.support c.heap) → Made (reached (progress_at e c))
    one_acted e finite = record {
      heap = subst (λ z. IsHeap z before (heap_at e.support c.heap)) (sym is.heap) (refl, finite);
      frames = subst (λ z. Framed z a code below (m.went a c.locals.items full ∷ below)) (sym is.frames) (λ i. m.went a c.locals.items (ec i) ∷ below);
      lists = e.entries;
      started = subst (λ z. contexts_at e.entries c.started.items ≡ contexts_at e.entries z.items) (sym is.started) refl;
      line = sym is.line;
    }

    pub acted : (o : Outcome act.Progress) → Lands (Follows c) o → Lands Made (m.action_turn p line a full below o)
    acted o l = then_lands (Follows c) o _ l Made (λ g f. gives Made (reached g) (of_follower (λ g. Made (reached g)) c g f one_acted))

module _ (t : Turn) (a : m.Activation) (code : List m.Remaining) (below : List m.Activation) (before : Heap) (line : ℕ) where
  -- a turn that calls a function
  pub called : (r : Option Remaining) (entered : Activation) (y : List Ref) (full : List m.Remaining) → IsCalled t line r entered → put_onto r code ≡ full → Lands (Turned t a code below before) (Gives (record { heap = before; frames = frame_at y entered ∷ m.went a a.locals full ∷ below; started = []; line = line }))
  called r entered y full is e = gives (Turned t a code below before) _ (record {
    heap = subst (λ z. IsHeap z before before) (sym is.heap) refl;
    frames = subst (λ z. Framed z a code below (frame_at y entered ∷ m.went a a.locals full ∷ below)) (sym is.frames) (y, λ i. frame_at y entered ∷ m.went a a.locals (sym e i) ∷ below);
    lists = [];
    started = subst (λ z. [] ≡ contexts_at [] z) (sym is.started) refl;
    line = sym is.line;
  })

  -- a turn that returns, and its caller stores nothing
  pub returned : IsReturned t line → Lands (Turned t a code below before) (Gives (record { heap = before; frames = below; started = []; line = line }))
  returned is = gives (Turned t a code below before) _ (record {
    heap = subst (λ z. IsHeap z before before) (sym is.heap) refl;
    frames = subst (λ z. Framed z a code below below) (sym is.frames) refl;
    lists = [];
    started = subst (λ z. [] ≡ contexts_at [] z) (sym is.started) refl;
    line = sym is.line;
  })

-- a turn that returns, and its caller stores the value
module _ (p : Program) (t : Turn) (a : m.Activation) (code : List m.Remaining) (b : m.Activation) (rest : List m.Activation) (before : Heap) (line : ℕ) (c : Progress) (is : IsStoredTurn t line c) where
  abbrev Back : m.Turn → Type 0
  Back = Turned t a code (b ∷ rest) before

  abbrev back : act.Progress → m.Turn
  back g = record { heap = g.heap; frames = m.went b g.locals (behind b.code) ∷ rest; started = g.started; line = line }

  one_stored : (e : Extra) → IsFinite (heap_at e.support c.heap) → Back (back (progress_at e c))
  one_stored e finite = record {
    heap = subst (λ z. IsHeap z before (heap_at e.support c.heap)) (sym is.heap) (refl, finite);
    frames = subst (λ z. Framed z a code (b ∷ rest) (m.went b c.locals.items (behind b.code) ∷ rest)) (sym is.frames) refl;
    lists = e.entries;
    started = subst (λ z. contexts_at e.entries c.started.items ≡ contexts_at e.entries z.items) (sym is.started) refl;
    line = sym is.line;
  }

  pub stored : (o : Outcome act.Progress) → Lands (Follows c) o → Lands Back (m.action_turn p line b (behind b.code) rest o)
  stored o l = then_lands (Follows c) o _ l Back (λ g f. gives Back (back g) (of_follower (λ g. Back (back g)) c g f one_stored))

-- an action that begins
module _ (result : Result (Unit {0}) Stop) (c old : Progress) (at_ : CodeSpot) (F : Program → Spot → act.Progress → ℕ → Outcome act.Progress) (p : Program) (x : CodeContext) (choices : List Value) (line : ℕ) (heap : List Stored) (l : List Value) (next : ℕ) where
  -- where numbers may run out
  pub reads_or : (U : Program → Spot → act.Progress → ℕ → Type 0) →
      Reading at_ old (λ p s g n. RunsOr (U p s g n) result c (F p s g n)) → at_.program.now ≡ p → ((z : List Ref) → spot_at z at_ ≡ act.spot (context_at z x) choices line) → IsStarting old heap l next →
      (z y : List Ref) → IsFinite (heap_at y heap) →
      let s = act.spot (context_at z x) choices line in
      let g = act.starting (heap_at y heap) l (act.Fresh next) in
      RunsOr (U p s g 0) result c (F p s g 0)
  reads_or U h ep es is z y finite =
      let g = act.starting (heap_at y heap) l (act.Fresh next) in
      at_spot (λ q s. RunsOr (U q s g 0) result c (F q s g 0)) at_.program.now p (spot_at z at_) (act.spot (context_at z x) choices line) ep (es z)
      (subst (λ g. RunsOr (U at_.program.now (spot_at z at_) g 0) result c (F at_.program.now (spot_at z at_) g 0)) (is.is y) (h 0 z (plain y) (subst (λ s. IsFinite (heap_at y s)) (sym is.heap) finite)))

  pub reads :
      Reading at_ old (λ p s g n. Runs result c (F p s g n)) → at_.program.now ≡ p → ((z : List Ref) → spot_at z at_ ≡ act.spot (context_at z x) choices line) → IsStarting old heap l next →
      (z y : List Ref) → IsFinite (heap_at y heap) → Runs result c (F p (act.spot (context_at z x) choices line) (act.starting (heap_at y heap) l (act.Fresh next)) 0)
  reads h ep es is z y finite = reads_or (λ p s g n. ⊥) h ep es is z y finite
