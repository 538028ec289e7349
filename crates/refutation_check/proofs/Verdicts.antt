-- What a loaded block shows.
use Rattle.std.proofs.Common.{◌≡◌, inl, inr, ℕ, suc, ◌∷◌, ◌<◌, ◌≤◌, List, [], length, map, take, Option, Some, None, Result, Ok, Err, IsTrue, ◌↔◌, Bool, true, false, refl, ap, sym, ◌∙◌, subst, arith}
use Rattle.int_ranges.specs.declared.exact.Wide.{Wide}
use Rattle.terms.specs.declared.term.Term.{Term}
use Rattle.terms.specs.declared.term.Literal.{Literal}
use Rattle.term_meaning.specs.Meaning.{Language}
use Rattle.cert_format.specs.Derivations.{Derivation}
use Rattle.vcc_rules.specs.Law.{AreWithin}
use Rattle.block_layout.specs.declared.loaded.Loaded.{Loaded}
use Rattle.block_layout.specs.declared.loaded.Stop.{Stop}
use Rattle.block_layout.specs.declared.loaded.Stop.TheVariants as s
use Rattle.block_layout.specs.declared.space.Space.{Space}
use Rattle.block_layout.specs.Layout.{clause_in}
use Rattle.block_layout.specs.Loading.{laid_in, has_steps, AreLaid, IsLoaded, IsLoadedTo, IsPastLimit, IsUnnamed}
use Rattle.std.proofs.lemmas.Option.{slice_get_within}
use Rattle.block_layout.proofs.Lists.{take_long}
use Rattle.refutation_check.specs.declared.answer.Answer.{Answer}
use Rattle.refutation_check.specs.declared.answer.Answer.TheVariants as a
use Rattle.refutation_check.specs.declared.answer.CheckFault.{CheckFault}
use Rattle.refutation_check.specs.declared.answer.CheckFault.TheVariants as f
use Rattle.refutation_check.specs.Theorems.{TreeClause, Theorems, AreHeld}
use Rattle.refutation_check.specs.Judging.{IsUnloaded, IsEnding, IsWhole, Empty, Other, IsSomeLoaded, IsFirstFailure, Judges}
use Rattle.refutation_check.specs.Follows.{IsAnswer, FrontLaid, Derives, Refutes, StepFails, EndsOpen, LeavesFirst, EndsWith, EndsEmpty}
use Rattle.refutation_check.proofs.Within.{layout_within}

-- ---- steps that are laid out

-- some of the first steps are laid out
pub record Front (l : Language) (own : List Term) (root : Option ℕ) (block : Derivation) (space : Space) (loaded : Loaded) : Type 0 where
  pub count : ℕ
  pub are : AreLaid l own root block space loaded count

pub front_of : (l : Language) (own : List Term) (root : Option ℕ) (block : Derivation) (space : Space) (loaded : Loaded) (stop : Option Stop) → has_steps stop ≡ true → IsLoadedTo l own root block space loaded stop → Front l own root block space loaded
front_of l own root block space loaded None h k = record { count = length block.steps; are = k.0 }
front_of l own root block space loaded (Some (s.BadTerm i)) h k = cc
front_of l own root block space loaded (Some s.Limit) h k = cc
front_of l own root block space loaded (Some (s.LimitAt i)) h k = record { count = i; are = k.0 }
front_of l own root block space loaded (Some (s.UnnamedAt i)) h k = record { count = i; are = k.0 }

pub within : (space : Space) (loaded : Loaded) → IsSomeLoaded space loaded → has_steps loaded.stop ≡ true → AreWithin (length space.graph) loaded.clauses.list.items
within space loaded k h =
    let front = front_of k.language k.own k.root k.block space loaded loaded.stop h k.is in
    layout_within k.language front.are.trees k.root (take front.count k.block.steps) (laid_in space loaded) front.are.layout

map_long : {X Y : Type 0} (f : X → Y) (xs : List X) → length (map f xs) ≡ length xs
map_long f [] = refl
map_long f (x ∷ xs) = ap suc (map_long f xs)

-- as many clauses as steps
pub clauses_long : (l : Language) (own : List Term) (root : Option ℕ) (block : Derivation) (space : Space) (loaded : Loaded) (count : ℕ) → AreLaid l own root block space loaded count → length loaded.clauses.list.items ≡ length (take count block.steps)
clauses_long l own root block space loaded count k = ap length k.layout.clauses ∙ map_long (clause_in k.layout.names) (take count block.steps)

as_long : (l : Language) (own : List Term) (root : Option ℕ) (block : Derivation) (space : Space) (loaded : Loaded) (count : ℕ) → AreLaid l own root block space loaded count → length loaded.steps.items ≡ length loaded.clauses.list.items
as_long l own root block space loaded count k = k.layout.count ∙ sym (clauses_long l own root block space loaded count k)

pub steps_long : (space : Space) (loaded : Loaded) → IsSomeLoaded space loaded → has_steps loaded.stop ≡ true → length loaded.steps.items ≡ length loaded.clauses.list.items
steps_long space loaded k h =
    let front = front_of k.language k.own k.root k.block space loaded loaded.stop h k.is in
    as_long k.language k.own k.root k.block space loaded front.count front.are

-- ---- what is shown of a block, by the theorems that are held

pub front_laid : (l : Language) (own : List Term) (root : Option ℕ) (block : Derivation) (space : Space) (loaded : Loaded) (count : ℕ) → AreLaid l own root block space loaded count → FrontLaid l own root block count (laid_in space loaded)
front_laid l own root block space loaded count k = record { trees = k.trees; good = k.good; layout = k.layout }

module _ (l : Language) (theorems : Theorems) (own : List Term) (root : Option ℕ) (block : Derivation) (space : Space) (known : List (Option (List Literal))) (loaded : Loaded) (held : AreHeld space.graph known theorems) where
  pub leaves_shown : (w : Wide) → has_steps loaded.stop ≡ true → IsFirstFailure space known loaded (Err w) → IsLoaded l own root block space loaded → LeavesFirst l theorems own root block w
  leaves_shown w h first k =
      let front = front_of l own root block space loaded loaded.stop h k in
      let (i, before, leaves) = first.each theorems held in
      record { count = front.count; laid = laid_in space loaded; front = front_laid l own root block space loaded front.count front.are; step = i; before = before; leaves = leaves }

  pub failure_shown : (i : ℕ) → has_steps loaded.stop ≡ true → IsFirstFailure space known loaded (Ok (Some i)) → IsLoaded l own root block space loaded → StepFails l theorems own root block i
  failure_shown i h first k =
      let front = front_of l own root block space loaded loaded.stop h k in
      let (place, before, not_given) = first.each theorems held in
      record { count = front.count; laid = laid_in space loaded; front = front_laid l own root block space loaded front.count front.are; before = before; fails = inl (place, not_given) }

  -- at a step whose clause names no term
  pub unnamed_shown : (i : ℕ) → IsFirstFailure space known loaded (Ok None) → (k : AreLaid l own root block space loaded i) → IsUnnamed block.steps (length k.trees) i → StepFails l theorems own root block i
  unfolding front_laid
  unnamed_shown i first k u =
      let place : i ≡ length loaded.clauses.list.items = sym (take_long block.steps i (omega (arith, slice_get_within block.steps i u.step u.at))) ∙ sym (clauses_long l own root block space loaded i k) in
      record {
        count = i;
        laid = laid_in space loaded;
        front = front_laid l own root block space loaded i k;
        before = λ j below. first.each theorems held j (subst (λ n. j < n) place below);
        fails = inr (place, u);
      }

  -- all steps are given, and the last clause is this one
  pub all_shown : (c : TreeClause) → IsFirstFailure space known loaded (Ok None) → AreLaid l own root block space loaded (length block.steps) → length space.graph ≤ 1_048_576 → EndsWith space.graph loaded.clauses.list.items c → Derives l theorems own root block c
  all_shown c first k few last = record {
    laid = laid_in space loaded;
    front = front_laid l own root block space loaded (length block.steps) k;
    few = few;
    given = first.each theorems held;
    last = last;
  }

  -- and it isn't empty
  pub open_shown : (n : ℕ) → n ≡ length loaded.steps.items → IsFirstFailure space known loaded (Ok None) → AreLaid l own root block space loaded (length block.steps) → (EndsEmpty loaded.clauses.list.items → ⊥) → EndsOpen l theorems own root block n
  open_shown n many first k not_empty =
      let long : length loaded.steps.items ≡ length loaded.clauses.list.items = as_long l own root block space loaded (length block.steps) k in
      record {
        laid = laid_in space loaded;
        front = front_laid l own root block space loaded (length block.steps) k;
        many = many ∙ k.layout.count ∙ take_long block.steps (length block.steps) (omega arith);
        given = λ j below. first.each theorems held j (subst (λ n. j < n) (many ∙ long) below);
        not_empty = not_empty;
      }

-- a last clause that is empty
pub empty_last : (nodes : List Term) (clauses : List (List Literal)) → EndsEmpty clauses → EndsWith nodes clauses []
empty_last nodes clauses (i, count, last) = (i, [], count, last, tt)

-- ---- answers

module _ (l : Language) (theorems : Theorems) (own : List Term) (root : ℕ) (block : Derivation) (space : Space) (known : List (Option (List Literal))) (loaded : Loaded) (held : AreHeld space.graph known theorems) where
  on_unloaded : (stop : Option Stop) (result : Result Answer CheckFault) → has_steps stop ≡ false → IsUnloaded stop result → IsLoadedTo l own (Some root) block space loaded stop → IsAnswer l theorems own root block result
  on_unloaded None result h u k = cc
  on_unloaded (Some (s.BadTerm i)) result h u k = subst (λ (x : Result Answer CheckFault). IsAnswer l theorems own root block x) (sym u) k
  on_unloaded (Some s.Limit) result h u k = subst (λ (x : Result Answer CheckFault). IsAnswer l theorems own root block x) (sym u) tt
  on_unloaded (Some (s.LimitAt i)) result h u k = cc
  on_unloaded (Some (s.UnnamedAt i)) result h u k = cc

  whole_answer : (result : Result Answer CheckFault) → IsFirstFailure space known loaded (Ok None) → AreLaid l own (Some root) block space loaded (length block.steps) → length space.graph ≤ 1_048_576 → IsWhole loaded.clauses.list.items (length loaded.steps.items) result → IsAnswer l theorems own root block result
  whole_answer result first k few (Empty empty is) =
      subst (λ (x : Result Answer CheckFault). IsAnswer l theorems own root block x) (sym is)
      (all_shown l theorems own (Some root) block space known loaded held [] first k few (empty_last space.graph loaded.clauses.list.items empty))
  whole_answer result first k few (Other open' is) =
      subst (λ (x : Result Answer CheckFault). IsAnswer l theorems own root block x) (sym is)
      (inr (open_shown l theorems own (Some root) block space known loaded held (length loaded.steps.items) refl first k open'))

  on_ending : (stop : Option Stop) (result : Result Answer CheckFault) → has_steps stop ≡ true → IsFirstFailure space known loaded (Ok None) → IsEnding loaded stop result → IsLoadedTo l own (Some root) block space loaded stop → IsAnswer l theorems own root block result
  on_ending None result h first e k = whole_answer result first k.0 k.1 e
  on_ending (Some (s.BadTerm i)) result h first e k = cc
  on_ending (Some s.Limit) result h first e k = cc
  on_ending (Some (s.LimitAt i)) result h first e k = subst (λ (x : Result Answer CheckFault). IsAnswer l theorems own root block x) (sym e) tt
  on_ending (Some (s.UnnamedAt i)) result h first e k =
      subst (λ (x : Result Answer CheckFault). IsAnswer l theorems own root block x) (sym e) (inl (unnamed_shown l theorems own (Some root) block space known loaded held i first k.0 k.1))

-- ---- the limit, and memory

past : (l : Language) (own : List Term) (root : Option ℕ) (block : Derivation) (space : Space) (loaded : Loaded) (stop : Option Stop) (result : Result Answer CheckFault) → IsUnloaded stop result → has_steps stop ≡ false → IsLoadedTo l own root block space loaded stop → result ≡ Err f.Limit → IsPastLimit space
past l own root block space loaded None result u h k e = cc
past l own root block space loaded (Some (s.BadTerm i)) result u h k e = let n : Ok (a.BadTerm i) ≡ Err f.Limit = sym u ∙ e in cc
past l own root block space loaded (Some s.Limit) result u h k e = k
past l own root block space loaded (Some (s.LimitAt i)) result u h k e = cc
past l own root block space loaded (Some (s.UnnamedAt i)) result u h k e = cc

pub past_terms : (space : Space) (loaded : Loaded) (result : Result Answer CheckFault) → IsSomeLoaded space loaded → IsUnloaded loaded.stop result → has_steps loaded.stop ≡ false → result ≡ Err f.Limit → IsPastLimit space
past_terms space loaded result k u h e = past k.language k.own k.root k.block space loaded loaded.stop result u h k.is e

whole_no_limit : (clauses : List (List Literal)) (count : ℕ) (result : Result Answer CheckFault) → IsWhole clauses count result → result ≡ Err f.Limit → ⊥
whole_no_limit clauses count result (Empty empty is) e = let n : Ok a.Follows ≡ Err f.Limit = sym is ∙ e in cc
whole_no_limit clauses count result (Other open' is) e = let n : Ok (a.FailsAt count) ≡ Err f.Limit = sym is ∙ e in cc

past_end : (l : Language) (own : List Term) (root : Option ℕ) (block : Derivation) (space : Space) (loaded : Loaded) (stop : Option Stop) (result : Result Answer CheckFault) → has_steps stop ≡ true → IsEnding loaded stop result → IsLoadedTo l own root block space loaded stop → result ≡ Err f.Limit → IsPastLimit space
past_end l own root block space loaded None result h u k e = absurd (whole_no_limit loaded.clauses.list.items (length loaded.steps.items) result u e)
past_end l own root block space loaded (Some (s.BadTerm i)) result h u k e = cc
past_end l own root block space loaded (Some s.Limit) result h u k e = k
past_end l own root block space loaded (Some (s.LimitAt i)) result h u k e = k.1
past_end l own root block space loaded (Some (s.UnnamedAt i)) result h u k e = let n : Ok (a.FailsAt i) ≡ Err f.Limit = sym u ∙ e in cc

pub past_steps : (space : Space) (loaded : Loaded) (result : Result Answer CheckFault) → IsSomeLoaded space loaded → has_steps loaded.stop ≡ true → IsEnding loaded loaded.stop result → result ≡ Err f.Limit → IsPastLimit space
past_steps space loaded result k h u e = past_end k.language k.own k.root k.block space loaded loaded.stop result h u k.is e

pub whole_empty : (clauses : List (List Literal)) (count : ℕ) (b : Bool) → (IsTrue b ↔ EndsEmpty clauses) → b ≡ true → IsWhole clauses count (Ok a.Follows)
whole_empty clauses count b test so = Empty (test.0 so) refl

pub whole_other : (clauses : List (List Literal)) (count : ℕ) (b : Bool) → (IsTrue b ↔ EndsEmpty clauses) → b ≡ false → IsWhole clauses count (Ok (a.FailsAt count))
whole_other clauses count b test not_so = Other (λ k. let so : b ≡ true = test.1 k in cc) refl

-- ---- the four ways

no_memory_terms : (stop : Option Stop) (result : Result Answer CheckFault) → has_steps stop ≡ false → IsUnloaded stop result → result ≡ Err f.OutOfMemory → ⊥
no_memory_terms None result h u e = cc
no_memory_terms (Some (s.BadTerm i)) result h u e = let n : Ok (a.BadTerm i) ≡ Err f.OutOfMemory = sym u ∙ e in cc
no_memory_terms (Some s.Limit) result h u e = let n : Err f.Limit ≡ Err f.OutOfMemory = sym u ∙ e in cc
no_memory_terms (Some (s.LimitAt i)) result h u e = cc
no_memory_terms (Some (s.UnnamedAt i)) result h u e = cc

whole_no_memory : (clauses : List (List Literal)) (count : ℕ) (result : Result Answer CheckFault) → IsWhole clauses count result → result ≡ Err f.OutOfMemory → ⊥
whole_no_memory clauses count result (Empty empty is) e = let n : Ok a.Follows ≡ Err f.OutOfMemory = sym is ∙ e in cc
whole_no_memory clauses count result (Other open' is) e = let n : Ok (a.FailsAt count) ≡ Err f.OutOfMemory = sym is ∙ e in cc

no_memory_end : (loaded : Loaded) (stop : Option Stop) (result : Result Answer CheckFault) → has_steps stop ≡ true → IsEnding loaded stop result → result ≡ Err f.OutOfMemory → ⊥
no_memory_end loaded None result h u e = whole_no_memory loaded.clauses.list.items (length loaded.steps.items) result u e
no_memory_end loaded (Some (s.BadTerm i)) result h u e = cc
no_memory_end loaded (Some s.Limit) result h u e = cc
no_memory_end loaded (Some (s.LimitAt i)) result h u e = let n : Err f.Limit ≡ Err f.OutOfMemory = sym u ∙ e in cc
no_memory_end loaded (Some (s.UnnamedAt i)) result h u e = let n : Ok (a.FailsAt i) ≡ Err f.OutOfMemory = sym u ∙ e in cc

pub judges_unloaded : (space : Space) (known : List (Option (List Literal))) (loaded : Loaded) (result : Result Answer CheckFault) → IsSomeLoaded space loaded → has_steps loaded.stop ≡ false → IsUnloaded loaded.stop result → Judges space known loaded result
judges_unloaded space known loaded result k h u = record {
  answer = λ l theorems own root block is held. on_unloaded l theorems own root block space known loaded held loaded.stop result h u is;
  limit = λ e. past_terms space loaded result k u h e;
  memory = no_memory_terms loaded.stop result h u;
}

pub judges_wide : (space : Space) (known : List (Option (List Literal))) (loaded : Loaded) (w : Wide) → has_steps loaded.stop ≡ true → IsFirstFailure space known loaded (Err w) → Judges space known loaded (Err (f.Wide w))
judges_wide space known loaded w h first = record {
  answer = λ l theorems own root block is held. leaves_shown l theorems own (Some root) block space known loaded held w h first is;
  limit = λ e. absurd (cc);
  memory = λ e. cc;
}

pub judges_failure : (space : Space) (known : List (Option (List Literal))) (loaded : Loaded) (i : ℕ) → has_steps loaded.stop ≡ true → IsFirstFailure space known loaded (Ok (Some i)) → Judges space known loaded (Ok (a.FailsAt i))
judges_failure space known loaded i h first = record {
  answer = λ l theorems own root block is held. inl (failure_shown l theorems own (Some root) block space known loaded held i h first is);
  limit = λ e. absurd (cc);
  memory = λ e. cc;
}

pub judges_ending : (space : Space) (known : List (Option (List Literal))) (loaded : Loaded) (result : Result Answer CheckFault) → IsSomeLoaded space loaded → has_steps loaded.stop ≡ true → IsFirstFailure space known loaded (Ok None) → IsEnding loaded loaded.stop result → Judges space known loaded result
judges_ending space known loaded result k h first u = record {
  answer = λ l theorems own root block is held. on_ending l theorems own root block space known loaded held loaded.stop result h first u is;
  limit = λ e. past_steps space loaded result k h u e;
  memory = no_memory_end loaded loaded.stop result h u;
}

pub refuted : (l : Language) (theorems : Theorems) (own : List Term) (root : ℕ) (block : Derivation) (result : Result Answer CheckFault) → IsAnswer l theorems own root block result → result ≡ Ok a.Follows → Refutes l theorems own root block
refuted l theorems own root block result k e = subst (λ (x : Result Answer CheckFault). IsAnswer l theorems own root block x) e k

pub out_of_memory : (result : Result Answer CheckFault) (l : Language) (theorems : Theorems) (own : List Term) (root : ℕ) (block : Derivation) → result ≡ Err f.OutOfMemory → IsAnswer l theorems own root block result
out_of_memory result l theorems own root block e = subst (λ (x : Result Answer CheckFault). IsAnswer l theorems own root block x) (sym e) tt
