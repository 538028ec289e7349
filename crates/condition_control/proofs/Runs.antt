-- Runs put together: equal ones, and those that loops make step by step.
use Rattle.std.specs.Prelude.{ℕ, suc, ◌+◌, ◌<◌, List, ◌∷◌, ◌≡◌, length, drop}
use Rattle.std.proofs.Common.{refl, ap, sym, ◌∙◌, subst, get_or, arith}
use Rattle.std.proofs.Math.Seq.{drop-cons}
use Rattle.terms.specs.declared.term.Term.{Term}
use Rattle.conditions.specs.Paths.{Path, Done, Check, Fact, Branch, Standalone, Execution, Gives, sequence, prefix, after}
use Rattle.condition_code.specs.declared.walk.Step.{Step}
use Rattle.condition_code.specs.Walks.{GoesTo}
use Rattle.condition_code.proofs.Walks.{gives, run_then}

pub sequence_assoc : (q r s : Path) → sequence (sequence q r) s ≡ sequence q (sequence r s)
sequence_assoc Done r s = refl
sequence_assoc (Check f q) r s = ap (λ (t : Path). Check f t) (sequence_assoc q r s)
sequence_assoc (Fact f q) r s = ap (λ (t : Path). Fact f t) (sequence_assoc q r s)
sequence_assoc (Branch b q) r s = ap (λ (t : Path). Branch b t) (sequence_assoc q r s)
sequence_assoc (Standalone f q) r s = ap (λ (t : Path). Standalone f t) (sequence_assoc q r s)

pub sequence_done : (q : Path) → sequence q Done ≡ q
sequence_done Done = refl
sequence_done (Check f q) = ap (λ (t : Path). Check f t) (sequence_done q)
sequence_done (Fact f q) = ap (λ (t : Path). Fact f t) (sequence_done q)
sequence_done (Branch b q) = ap (λ (t : Path). Branch b t) (sequence_done q)
sequence_done (Standalone f q) = ap (λ (t : Path). Standalone f t) (sequence_done q)

abbrev by_path : {A : Type 0} → A → Path → Execution A
by_path x q = record { path = q; gives = x }

pub after_after : {A B C : Type 0} (t : Execution A) (f : A → Execution B) (g : B → Execution C) → after (after t f) g ≡ after t (λ x. after (f x) g)
after_after {C = C} t f g =
    let last : Execution C = g (f t.gives).gives in
    ap (by_path last.gives) (sequence_assoc t.path (f t.gives).path last.path)

pub after_gives : {A : Type 0} (t : Execution A) → after t (λ x. Gives x) ≡ t
after_gives t = ap (by_path t.gives) (sequence_done t.path)

pub as_run : {A B : Type 0} {Is : List Term → A → B → Type 0} {g0 g1 : List Term} {p0 p1 : List Step} {v : A} {t u : Execution B} → t ≡ u → GoesTo Is g0 g1 p0 p1 v t → GoesTo Is g0 g1 p0 p1 v u
as_run {B = B} {Is = Is} {g0 = g0} {g1 = g1} {p0 = p0} {p1 = p1} {v = v} e h = subst (λ (w : Execution B). GoesTo Is g0 g1 p0 p1 v w) e h

-- On the way through a run: what ran so far, and what is left from there, make the whole.
pub record OnWay {A B : Type 0} (Is : List Term → A → B → Type 0) (old new : List Term) (before behind : List Step) (v : A) (rest : B → Execution B) (whole : Execution B) : Type 0 where
  pub so_far : Execution B
  pub ran : GoesTo Is old new before behind v so_far
  pub is : after so_far rest ≡ whole

pub way_starts : {A B : Type 0} {Is : List Term → A → B → Type 0} {ts : List Term} {path : List Step} {v : A} {b : B} (rest : B → Execution B) → Is ts v b → OnWay Is ts ts path path v rest (rest b)
way_starts {b = b} rest is = record { so_far = Gives b; ran = gives (λ n f h. h) is; is = refl }

pub way_goes_on : {A B : Type 0} {Is : List Term → A → B → Type 0} {g0 g1 g2 : List Term} {p0 p1 p2 : List Step} {v w : A} {whole : Execution B} (rest one next : B → Execution B) → ((b : B) → rest b ≡ after (one b) next) → OnWay Is g0 g1 p0 p1 v rest whole → ((b : B) → Is g1 v b → GoesTo Is g1 g2 p1 p2 w (one b)) → OnWay Is g0 g2 p0 p2 w next whole
way_goes_on {B = B} rest one next step way ran = record {
  so_far = after way.so_far one;
  ran = run_then way.ran (ran way.so_far.gives way.ran.gives);
  is = after_after way.so_far one next ∙ ap (λ (u : Execution B). prefix way.so_far.path u) (sym (step way.so_far.gives)) ∙ way.is;
}

pub way_ends : {A B : Type 0} {Is : List Term → A → B → Type 0} {g0 g1 : List Term} {p0 p1 : List Step} {v : A} {whole : Execution B} (rest : B → Execution B) → ((b : B) → rest b ≡ Gives b) → OnWay Is g0 g1 p0 p1 v rest whole → GoesTo Is g0 g1 p0 p1 v whole
way_ends {B = B} rest over way =
    as_run (sym (after_gives way.so_far) ∙ ap (λ (u : Execution B). prefix way.so_far.path u) (sym (over way.so_far.gives)) ∙ way.is) way.ran

-- an element of a list, and those behind it
pub element : {X : Type 0} (xs : List X) (i : ℕ) (d : X) → i < length xs → drop i xs ≡ get_or xs i d ∷ drop (i + 1) xs
element xs i d below =
    let next : suc i ≡ i + 1 = omega arith in
    drop-cons xs i d below ∙ ap (λ j. get_or xs i d ∷ drop j xs) next
