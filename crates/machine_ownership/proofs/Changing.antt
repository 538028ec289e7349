-- Changes of an owned set: one member, and many one after the other.
use Rattle.std.proofs.Common.{◌≡◌, ℕ, ◌+◌, ◌<◌, ◌≤◌, Bool, true, false, cond, List, [], ◌∷◌, length, get_or, drop, Result, Ok, Err, refl, sym, ap, subst, ◌∙◌, add-one, drop-cons}
use Rattle.std.proofs.lemmas.List.{drop_all}
use Rattle.object_types.specs.declared.references.Ref.{Ref}
use Rattle.object_types.specs.declared.values.Value.{Value}
use Rattle.object_types.specs.Values.{referent}
use Rattle.object_types.specs.Sets.{with_member, without_member}
use Rattle.object_types.specs.Heap.{Heap, IsFinite, mutable, put, hand_over}
use Rattle.method.specs.declared.program.CheckKind.TheVariants.{Write, Writes, Owns}
use Rattle.method.specs.declared.program.OwnsChange.{OwnsChange}
use Rattle.method.specs.declared.program.Program.{Program}
use Rattle.method.specs.Expressions.{Outcome, Fault, Gives, Spot, check, may_write, is_listed}
use Rattle.method.specs.Actions as m
use Rattle.machine_values.specs.declared.stop.Stop.{Stop}
use Rattle.machine_values.specs.Spots.{heap_at}
use Rattle.machine_values.specs.Answers.{Stops}
use Rattle.machine_values.proofs.Outcomes.{stops_after}
use Rattle.machine_objects.specs.declared.progress.Progress.{Progress}
use Rattle.machine_objects.specs.Runs.{Extra, progress_at, Follows, Lands, Runs}
use Rattle.machine_objects.proofs.Checks.{fails, passes}
use Rattle.machine_objects.proofs.Landing.{then_comes, of_follower}
use Rattle.machine_ownership.specs.Owned.{owner_checks}

-- the checks of an owner, before anything that comes behind them
module _ {A : Type 0} (at_ : Spot) (h : Heap) (o : Ref) (n : ℕ) (more : Outcome A) where
  pub owner_no_write : mutable at_.context.me h o ≡ false → owner_checks at_ h o n more ≡ Fault n Write at_.line
  owner_no_write e = fails at_ (mutable at_.context.me h o) n Write (check at_ (may_write at_ o) (n + 1) Writes more) e

  pub owner_no_writes : mutable at_.context.me h o ≡ true → may_write at_ o ≡ false → owner_checks at_ h o n more ≡ Fault (n + 1) Writes at_.line
  owner_no_writes e d =
      passes at_ (mutable at_.context.me h o) n Write (check at_ (may_write at_ o) (n + 1) Writes more) e
      ∙ fails at_ (may_write at_ o) (n + 1) Writes more d

  pub owner_passes : mutable at_.context.me h o ≡ true → may_write at_ o ≡ true → owner_checks at_ h o n more ≡ more
  owner_passes e d =
      passes at_ (mutable at_.context.me h o) n Write (check at_ (may_write at_ o) (n + 1) Writes more) e
      ∙ passes at_ (may_write at_ o) (n + 1) Writes more d

-- One member: `inside` behind its two checks in a block, `outside` elsewhere. The test of the second check is w.
module _ (at_ : Spot) (o : Ref) (w : Bool) (n : ℕ) (inside outside : Outcome m.Progress) where
  abbrev pub one_change : Outcome m.Progress
  one_change = cond at_.inside (check at_ (is_listed at_ o) n Write (check at_ w (n + 1) Owns inside)) outside

  pub change_outside : at_.inside ≡ false → one_change ≡ outside
  change_outside e = ap (λ b. cond b (check at_ (is_listed at_ o) n Write (check at_ w (n + 1) Owns inside)) outside) e

  change_inside : at_.inside ≡ true → one_change ≡ check at_ (is_listed at_ o) n Write (check at_ w (n + 1) Owns inside)
  change_inside e = ap (λ b. cond b (check at_ (is_listed at_ o) n Write (check at_ w (n + 1) Owns inside)) outside) e

  pub change_unlisted : at_.inside ≡ true → is_listed at_ o ≡ false → one_change ≡ Fault n Write at_.line
  change_unlisted e d = change_inside e ∙ fails at_ (is_listed at_ o) n Write (check at_ w (n + 1) Owns inside) d

  pub change_refused : at_.inside ≡ true → is_listed at_ o ≡ true → w ≡ false → one_change ≡ Fault (n + 1) Owns at_.line
  change_refused e d f =
      change_inside e ∙ passes at_ (is_listed at_ o) n Write (check at_ w (n + 1) Owns inside) d ∙ fails at_ w (n + 1) Owns inside f

  pub change_passes : at_.inside ≡ true → is_listed at_ o ≡ true → w ≡ true → one_change ≡ inside
  change_passes e d f =
      change_inside e ∙ passes at_ (is_listed at_ o) n Write (check at_ w (n + 1) Owns inside) d ∙ passes at_ w (n + 1) Owns inside f

module _ (o q : Ref) (g : m.Progress) where
  abbrev pub with_one : Heap
  with_one = put g.heap o (record (g.heap.get o) { owned = with_member q (g.heap.get o).owned })

  abbrev pub joins : Outcome m.Progress
  joins = Gives (m.heap_of g (hand_over with_one (q ∷ []) o))

  abbrev pub without_one : Heap
  without_one = put g.heap o (record (g.heap.get o) { owned = without_member q (g.heap.get o).owned })

  abbrev pub leaves : Ref → Outcome m.Progress
  leaves me = Gives (m.heap_of g (hand_over without_one (q ∷ []) me))

-- Many: what the rest comes to, behind the changes so far, is what all of them come to.
module _ (p : Program) (at_ : Spot) (change : OwnsChange) (o : Ref) (vs : List Value) where
  abbrev pub Onward : ℕ → Progress → Progress → Type 0
  Onward i first now =
      (n : ℕ) (e : Extra) → IsFinite (heap_at e.support first.heap) → (r : Result (Unit {0}) Stop) (c : Progress) →
      ((k : ℕ) (d : Extra) → IsFinite (heap_at d.support now.heap) → Runs r c (m.members_change p at_ change o (drop i vs) k (progress_at d now))) →
      Runs r c (m.members_change p at_ change o vs n (progress_at e first))

  pub onward_start : (first : Progress) → Onward 0 first first
  onward_start first n e finite r c rest = rest n e finite

  -- what a change of the next member comes to
  abbrev pub Changes : Ref → Result (Unit {0}) Stop → Progress → Progress → Type 0
  Changes q r now next = (k : ℕ) (d : Extra) → IsFinite (heap_at d.support now.heap) → Runs r next (m.member_change p at_ change o q k (progress_at d now))

  module _ (i : ℕ) (d : Value) (within : i < length vs) (first now next : Progress) (so_far : Onward i first now) (q : Ref) (is : q ≡ referent (get_or vs i d)) where
    as_value : (r : Result (Unit {0}) Stop) → Changes q r now next → Changes (referent (get_or vs i d)) r now next
    as_value r step = subst (λ z. Changes z r now next) is step

    rest_is : drop i vs ≡ get_or vs i d ∷ drop (i + 1) vs
    rest_is = drop-cons vs i d within ∙ λ j. get_or vs i d ∷ drop (sym (add-one i) j) vs

    pub onward_next : Changes q (Ok tt) now next → Onward (i + 1) first next
    onward_next step n e finite r c rest =
        so_far n e finite r c (λ k x fin.
        subst (λ us. Runs r c (m.members_change p at_ change o us k (progress_at x now))) (sym rest_is)
        (then_comes (Follows next) (m.member_change p at_ change o (referent (get_or vs i d)) k (progress_at x now)) (λ g. m.members_change p at_ change o (drop (i + 1) vs) (k + 2) g) (as_value (Ok tt) step k x fin) r (λ u. Follows c)
        (λ g f. of_follower (λ a. Runs r c (m.members_change p at_ change o (drop (i + 1) vs) (k + 2) a)) next g f (λ y fin'. rest (k + 2) y fin'))))

    pub onward_stops : (s : Stop) → Changes q (Err s) now next → (n : ℕ) (e : Extra) → IsFinite (heap_at e.support first.heap) → Stops s (m.members_change p at_ change o vs n (progress_at e first))
    onward_stops s step n e finite =
        so_far n e finite (Err s) now (λ k x fin.
        subst (λ us. Stops s (m.members_change p at_ change o us k (progress_at x now))) (sym rest_is)
        (stops_after s (m.member_change p at_ change o (referent (get_or vs i d)) k (progress_at x now)) (λ g. m.members_change p at_ change o (drop (i + 1) vs) (k + 2) g) (as_value (Err s) step k x fin)))

  pub onward_end : (i : ℕ) (first now : Progress) → Onward i first now → length vs ≤ i → (n : ℕ) (e : Extra) → IsFinite (heap_at e.support first.heap) → Lands (Follows now) (m.members_change p at_ change o vs n (progress_at e first))
  onward_end i first now so_far over n e finite =
      so_far n e finite (Ok tt) now (λ k x fin.
      subst (λ us. Lands (Follows now) (m.members_change p at_ change o us k (progress_at x now))) (sym (drop_all i vs over))
      (record { fits = refl; gave = record { extra = x; finite = fin; is = refl } }))
