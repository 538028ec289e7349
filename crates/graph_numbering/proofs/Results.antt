-- What a walk's result stands for.
use Rattle.std.proofs.Common.{◌≡◌, ℕ, ℤ, ◌-◌, ◌<◌, List, length, take, drop, All, None, Some, Result, IfOk, ap, sym, ◌∙◌, subst, arith}
use Rattle.std.proofs.lemmas.List.{take_all, length-drop}
use Rattle.std.proofs.lemmas.Option.{slice_get_within}
use Rattle.std.proofs.lemmas.Result.{IfOk-weaker}
use Rattle.terms.specs.declared.term.Term.{Term}
use Rattle.terms.specs.declared.term.Kind.{Kind}
use Rattle.terms.specs.Formula.{Formula, term, Interns, AllStand, Stands, Numbered}
use Rattle.terms.proofs.Numbering.{interns_at, numbers_stand, stands_more}
use Rattle.term_graph.specs.Graph.{those_below, Later}
use Rattle.term_graph.proofs.Stands.{below_all, all_stand_within}
use Rattle.term_meaning.specs.Filling.{trees, fill}
use Rattle.graph_numbering.specs.Layout.{Lays}
use Rattle.graph_numbering.specs.Walk.{Grown}
use Rattle.graph_numbering.proofs.Laid.{lays_numbers, lays_filled}

-- a slice from a place on
pub slice_from : (xs ys : List ℕ) (m n : ℕ) → xs ≡ ys → m ≡ n → take (length xs - m) (drop m xs) ≡ drop n ys
slice_from xs ys m n e f =
    (λ i. take (length (e i) - f i) (drop (f i) (e i))) ∙ take_all (length ys - n) (drop n ys) (omega (arith, length-drop n ys))

-- a node whose arguments are all nodes is added whole
pub added_whole : (old new : List Term) (kind : Kind) (i index : ℤ) (xs ids : List ℕ) (id : ℕ) → i ≡ index → xs ≡ ids → All (λ a. a < length old) ids → Interns old (term kind i (those_below (length old) xs)) new id → Interns old (term kind index ids) new id
added_whole old new kind i index xs ids id e f all h =
    subst (λ (i : ℤ). Interns old (term kind i ids) new id) e
    (subst (λ (xs : List ℕ). Interns old (term kind i xs) new id) (ap (λ xs. those_below (length old) xs) f ∙ below_all (length old) ids all) h)

pub interned_within : (old new : List Term) (t : Term) (id : ℕ) → Interns old t new id → id < length new
interned_within old new t id h = slice_get_within new id t (interns_at old new t id h)

-- what stood stands where more is behind
pub grown_later : (old new : List Term) → Grown old new → Later old new
grown_later old new g n f s = stands_more old new n f g s

pub numbered_stands : {E : Type 0} (f : Formula) (old new : List Term) (r : Result ℕ E) → IfOk r (Numbered f old new) → IfOk r (λ id. Stands new id f)
numbered_stands f old new r h = IfOk-weaker r _ _ (λ id x. (numbers_stand f old new id x.is).1) h

pub laid_numbered : {E : Type 0} (f : Formula) (old new : List Term) (r : Result ℕ E) → IfOk r (Lays None f old new) → IfOk r (Numbered f old new)
laid_numbered f old new r h = IfOk-weaker r _ _ (λ id x. record { is = lays_numbers f old new id x }) h

-- numbers that stand are all kept
known_stand : (old : List Term) (args known : List ℕ) (ts : List Formula) (count : ℕ) → count ≡ length old → (All (λ a. a < count) args → known ≡ args) → AllStand old args (trees ts) → AllStand old known (trees ts)
known_stand old args known ts count e same all =
    let within : All (λ a. a < count) args = subst (λ n. All (λ a. a < n) args) (sym e) (all_stand_within old args (trees ts) all) in
    subst (λ (xs : List ℕ). AllStand old xs (trees ts)) (sym (same within)) all

pub laid_filled : {E : Type 0} (f : Formula) (ts : List Formula) (old new : List Term) (args known : List ℕ) (count : ℕ) (r : Result ℕ E) → count ≡ length old → (All (λ a. a < count) args → known ≡ args) → AllStand old args (trees ts) → IfOk r (Lays (Some known) f old new) → IfOk r (Numbered (fill ts f) old new)
laid_filled f ts old new args known count r e same all h =
    let stand = known_stand old args known ts count e same all in
    IfOk-weaker r _ _ (λ id x. record { is = lays_filled known ts f old new id stand x }) h
