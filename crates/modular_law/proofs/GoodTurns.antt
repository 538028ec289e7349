-- What a turn begins with and what it comes to: no check of it fails, and what is known of the thread is known again behind it.
use Rattle.std.proofs.Common.{◌≡◌, ◌≢◌, ℕ, ◌+◌, Bool, true, false, cond, ◌&&◌, List, [], ◌∷◌, map, Some, slice_get, refl, sym, ap, ◌∙◌, subst, IsFalse}
use Rattle.object_types.specs.declared.references.Ref.{Ref}
use Rattle.method.specs.Legal.{Legal}
use Rattle.method.specs.declared.program.CheckKind.{CheckKind}
use Rattle.method.specs.declared.program.Spec.{Spec}
use Rattle.method.specs.declared.program.Clause.{Clause}
use Rattle.method.specs.declared.program.FunctionInfo.{FunctionInfo}
use Rattle.method.specs.declared.program.Program.{Program}
use Rattle.object_types.specs.References.{thread}
use Rattle.object_types.specs.Values.{is_zero_int}
use Rattle.object_types.specs.Sets.{every}
use Rattle.object_types.specs.Heap.{Heap, IsClosedIn, is_open, writable}
use Rattle.method.specs.SpecValue.{Scene, holds}
use Rattle.method.specs.Legal.{Good}
use Rattle.method.specs.Rely.{Rely, Frame}
use Rattle.method.specs.Expressions.{End, Misfit, Failed, Gave, goes_on, Outcome, after, Context, Spot, Tested, check, check_specs, spec_test, clause_tests}
use Rattle.method.specs.Actions.{Supply, Fresh, Chosen, Picked, started, clauses_hold, fitting}
use Rattle.method.specs.Machine.{Activation, Turn, begin, all_true}
use Rattle.method.specs.LocalRuns.{Moves}
use Rattle.method.specs.SafeRuns.{Passes, PassesEnd}
use Rattle.method.proofs.Relies.{rely_rests}
use Rattle.method.proofs.Global.{and_both, both_and}
use Rattle.modular_law.specs.Respect.{IsOlder, Respects, ActionsRespect}
use Rattle.modular_law.specs.Respect.{Fits}
use Rattle.modular_law.proofs.Facts.{TopSpares}
use Rattle.modular_law.proofs.Ends.{Ends, Both, Alike}
use Rattle.modular_law.proofs.Walks.{Above}
use Rattle.modular_law.proofs.Frames.{frame_rests}
use Rattle.modular_law.proofs.Threads.{BelowOk, ThreadOk}

-- threads that are to start
abbrev pub AllStart : Program → Heap → List Context → Type 0
AllStart p h [] = Unit {0}
AllStart p h (y ∷ ys) = ThreadOk p y.me.serial h (begin p y ∷ []) × AllStart p h ys

pub record Done (p : Program) (t : ℕ) (h : Heap) (turn : Turn) : Type 0 where
  pub frames : ThreadOk p t turn.heap turn.frames
  pub started : AllStart p turn.heap turn.started
  pub unopened : (o : Ref) → IsClosedIn h o → is_zero_int (h.get o).count ≡ false → IsFalse (is_open (turn.heap.get o).mode)

pub record Known (p : Program) (t : ℕ) (h : Heap) (turn : Turn) : Type 0 where
  pub good : Good p turn.heap
  pub spares : TopSpares p t h turn.heap turn.frames

-- what a turn does to others
pub record Outward (p : Program) (supply : Supply) (t : ℕ) (h : Heap) (turn : Turn) : Type 0 where
  pub legal : Legal p h turn.heap
  pub relied : Good p turn.heap → (u : ℕ) → u ≢ t → IsOlder supply u → Rely p (thread u) h turn.heap
  pub framed : Good p turn.heap → TopSpares p t h turn.heap turn.frames

-- a heap that stays
top_rests : (p : Program) (t : ℕ) (h : Heap) → Good p h → (frames : List Activation) → TopSpares p t h h frames
top_rests p t h good [] = tt
top_rests p t h good (a ∷ below) = λ e w entry n. frame_rests p (thread t) h e w entry good

pub stays : (p : Program) (supply : Supply) (t : ℕ) (h : Heap) → Good p h → (frames : List Activation) (started : List Context) (line : ℕ) →
    Outward p supply t h (record { heap = h; frames = frames; started = started; line = line })
stays p supply t h good frames started line = record {
  legal = record {
    well_formed = record { before = good.well_formed.heap_of; after = good.well_formed; fixed = λ o c d. record { fields = λ f e. refl; owned = λ e. refl; listed = refl; shapes = refl } };
    touched = λ o c touched. absurd (touched
        (record { count = refl; owned = refl; fields = λ f. refl; listed = refl; shapes = refl; closed = refl; counts = λ q e. refl; approved = λ q e. record { fields = λ f a. refl } }));
  };
  relied = λ g u ne old. rely_rests p (thread u) h good;
  framed = λ g. top_rests p t h good frames;
}

-- an action of the function that is on top behind it
pub moves : (p : Program) (supply : Supply) (t : ℕ) (h k : Heap) (a : Activation) (below : List Activation) (started : List Context) (line : ℕ) → a.context.me ≡ thread t →
    Respects p a.context supply h k → Outward p supply t h (record { heap = k; frames = a ∷ below; started = started; line = line })
moves p supply t h k a below started line me passed = record {
  legal = passed.legal;
  relied = λ g u ne old. passed.relied g u (λ e. ne (ap (λ (r : Ref). r.serial) (e ∙ me))) old;
  framed = λ g e w entry n. subst (λ (r : Ref). Frame p r h k e w) me (passed.framed g e w entry (λ o z. n o (subst (λ (r : Ref). IsFalse (writable r e w o)) me z)));
}

pub passed_rests : (p : Program) (x : Context) (supply : Supply) (h : Heap) → Good p h → Respects p x supply h h
passed_rests p x supply h good =
    let m = stays p supply 0 h good [] [] 0 in
    record { legal = m.legal; relied = λ g u ne old. rely_rests p (thread u) h good; framed = λ g e w entry n. frame_rests p x.me h e w entry good }

pub above_older : (supply : Supply) (u : ℕ) → Above (thread u) supply → IsOlder supply u
above_older (Fresh n) u a = a
above_older (Chosen rs) u a = a
above_older (Picked n rs) u a = a

-- What a turn comes to: no fault, and where it is within the frames of those that wait, all is as it was.
abbrev pub GoodEnd : Program → Supply → ℕ → Heap → End Turn → Type 0
GoodEnd p supply t h Misfit = Unit {0}
GoodEnd p supply t h (Failed n kind line) = ⊥
GoodEnd p supply t h (Gave turn) = (ActionsRespect p → Outward p supply t h turn) × (Known p t h turn → Done p t h turn)

pub record GoodTurn (p : Program) (supply : Supply) (t : ℕ) (h : Heap) (o : Outcome Turn) : Type 0 where
  pub ends : GoodEnd p supply t h o.end

-- What local runs pass, part by part.

pass_end : {A B : Type 0} (p : Program) (supply : Supply) (t : ℕ) (h : Heap) (R : A → B → Type 0) (Q : ℕ → B → Type 0) (w : _) (e : End A) (d : End B) (k : A → Outcome Turn) → Ends R e d →
    ((label : ℕ) → PassesEnd label d (Q label)) → ((a : A) (b : B) → e ≡ Gave a → R a b → ((label : ℕ) → Q label b) → GoodTurn p supply t h (k a)) → GoodEnd p supply t h (goes_on w e k).end
pass_end p supply t h R Q w Misfit d k x y next = tt
pass_end p supply t h R Q w (Failed n kind line) Misfit k x y next = x
pass_end p supply t h R Q w (Failed n kind line) (Failed m other at_line) k x y next = y m refl
pass_end p supply t h R Q w (Failed n kind line) (Gave b) k x y next = x
pass_end p supply t h R Q w (Gave a) Misfit k x y next = absurd x
pass_end p supply t h R Q w (Gave a) (Failed m other at_line) k x y next = absurd x
pass_end p supply t h R Q w (Gave a) (Gave b) k x y next = (next a b refl x y).ends

pub passes_after : {A B : Type 0} (label : ℕ) (w : _) (e : End A) (f : A → Outcome B) (Q : B → Type 0) → PassesEnd label (goes_on w e f).end Q → PassesEnd label e (λ a. Passes label (f a) Q)
passes_after label w Misfit f Q y = tt
passes_after label w (Failed n kind line) f Q y = y
passes_after label w (Gave a) f Q y = y

module _ (p : Program) (supply : Supply) (t : ℕ) (h : Heap) where
  pub pass : {A B : Type 0} (R : A → B → Type 0) (Q : ℕ → B → Type 0) (o : Outcome A) (o' : Outcome B) (k : A → Outcome Turn) → Both R o o' → ((label : ℕ) → Passes label o' (Q label)) →
      ((a : A) (b : B) → o.end ≡ Gave a → R a b → ((label : ℕ) → Q label b) → GoodTurn p supply t h (k a)) → GoodTurn p supply t h (after o k)
  pass R Q o o' k x y next = record { ends = pass_end p supply t h R Q o.overflow o.end o'.end k x.ends y next }

  -- the same where both give the same
  pub pass_value : {A : Type 0} (Q : ℕ → A → Type 0) (o o' : Outcome A) (k : A → Outcome Turn) → Alike o o' → ((label : ℕ) → Passes label o' (Q label)) →
      ((a : A) → o.end ≡ Gave a → ((label : ℕ) → Q label a) → GoodTurn p supply t h (k a)) → GoodTurn p supply t h (after o k)
  pass_value Q o o' k x y next = pass (λ a b. b ≡ a) Q o o' k x y (λ a b e s q. next a e (λ label. subst (Q label) s (q label)))

  pub pass_fitting : (b : Bool) (o : Outcome Turn) → GoodTurn p supply t h o → GoodTurn p supply t h (fitting b o)
  pass_fitting true o x = x
  pass_fitting false o x = record { ends = tt }

  pub pass_specs : {B : Type 0} (at_ : Spot) (kind : CheckKind) (Q : ℕ → B → Type 0) (o : Outcome Turn) (o' : Outcome B) (ts : List Tested) (n m : ℕ) →
      ((label : ℕ) → Passes label (check_specs at_ ts m kind o') (Q label)) → (every (λ (u : Tested). u.holds) ts ≡ true → ((label : ℕ) → Passes label o' (Q label)) →
      GoodTurn p supply t h o) → GoodTurn p supply t h (check_specs at_ ts n kind o)
  pass_specs at_ kind Q o o' [] n m y next = next refl y
  pass_specs at_ kind Q o o' (u ∷ us) n m y next = by_test u.holds refl y (λ z. (pass_specs at_ kind Q o o' us (n + 1) (m + 1) z))
    where
      by_test : (b : Bool) → u.holds ≡ b → ((label : ℕ) → PassesEnd label (check at_ b m kind (check_specs at_ us (m + 1) kind o')).end (Q label)) →
          (((label : ℕ) → Passes label (check_specs at_ us (m + 1) kind o') (Q label)) → (every (λ (u : Tested). u.holds) us ≡ true → ((label : ℕ) → Passes label o' (Q label)) →
          GoodTurn p supply t h o) → GoodTurn p supply t h (check_specs at_ us (n + 1) kind o)) → GoodTurn p supply t h (check_specs at_ (u ∷ us) n kind o)
      by_test true e z rec = let r = rec z (λ all q. next (both_and u.holds _ e all) q) in record
          { ends = subst (λ b. GoodEnd p supply t h (check at_ b n kind (check_specs at_ us (n + 1) kind o)).end) (sym e) r.ends }
      by_test false e z rec = absurd (z m refl)

pub every_specs : (p : Program) (s : Scene) (es : List Spec) → every (λ (u : Tested). u.holds) (map (λ e. spec_test p e s) es) ≡ every (λ e. holds p e s) es
every_specs p s [] = refl
every_specs p s (e ∷ es) = ap (λ b. holds p e s && b) (every_specs p s es)

pub every_clauses : (p : Program) (s : Scene) (cs : List Clause) → every (λ (u : Tested). u.holds) (clause_tests p cs s) ≡ true → all_true (clauses_hold p cs s) ≡ true
every_clauses p s [] e = refl
every_clauses p s (c ∷ cs) e =
    let x = and_both (holds p c.spec s) (every (λ (u : Tested). u.holds) (clause_tests p cs s)) e in
    ap (λ b. cond b (all_true (clauses_hold p cs s)) false) x.0 ∙ every_clauses p s cs x.1

-- What a turn begins with: a good heap, the function that runs on top, and the functions that wait behind it.
pub record Running (p : Program) (t : ℕ) (h : Heap) (a : Activation) (f : FunctionInfo) (below : List Activation) (supply : Supply) : Type 0 where
  pub good : Good p h
  pub is : slice_get p.functions.items a.context.function ≡ Some f
  pub me : a.context.me ≡ thread t
  pub entry : Good p a.context.entry
  pub waits : BelowOk p t h a.context below
  pub above : Above a.context.me supply
  pub fits : Fits f a.locals

module _ (p : Program) {t : ℕ} {h : Heap} {a : Activation} {f : FunctionInfo} {below : List Activation} {supply : Supply} (here : Running p t h a f below supply) where
  -- others may do nothing
  pub stay : (b : Bool) → Moves b p a.context.me h h
  stay true = rely_rests p a.context.me h here.good
  stay false = refl

  pub older_now : IsOlder supply t
  older_now = above_older supply t (subst (λ (q : Ref). Above q supply) here.me here.above)
