-- What stays when terms are put into a graph.
use Rattle.std.proofs.Common.{◌≡◌, ℕ, zero, suc, ◌<◌, ◌≤◌, List, [], ◌∷◌, length, take, All, Some, Option, Result, Ok, Err, OnOk, slice_get, refl, ap, sym, ◌∙◌, subst, arith}
use Rattle.std.proofs.lemmas.Option.{slice_get_within}
use Rattle.std.proofs.lemmas.List.Elements.{All-head, All-tail}
use Rattle.terms.specs.declared.term.Term.{Term}
use Rattle.terms.specs.Formula.{Formula, Formulas, Node, Stop, With, Stands, AllStand, term}
use Rattle.term_graph.specs.Graph.{IsGraph}
use Rattle.term_graph.proofs.Trees.{equal}
use Rattle.term_meaning.specs.Meaning.{Language}
use Rattle.condition_formulas.specs.Standing.{StandsAs, Later}
use Rattle.term_language.specs.declared.language.Language.{Language as Code}
use Rattle.term_language.specs.Languages.{IsLanguage}
use Rattle.term_sorts.specs.Sorting.{AreSortsIn, HaveSorts, HasColumns, Completes, Continues}
use Rattle.block_layout.specs.Space.{Keeps, Sorts, StaysSorted, KnowsSorts, IsSorted}
use Rattle.block_layout.specs.declared.space.Space.{Space}
use Rattle.block_layout.proofs.Lists.{front_of, below_gets}
use borrow.Author.Count.{below_more}
use Rattle.terms.specs.declared.sort.Sort.{Sort}

-- ---- each node of a graph is a tree

trees_of : (ts : List Term) (args : List ℕ) (i : ℕ) → All (λ a. a < i) args → ((j : ℕ) → j < i → (f : Formula) × Stands ts j f) → (fs : Formulas) × AllStand ts args fs
trees_of ts [] i h at = (Stop, refl)
trees_of ts (a ∷ as') i h at =
    let (f, s) = at a (All-head (λ a. a < i) a as' h) in
    let (fs, all) = trees_of ts as' i (All-tail (λ a. a < i) a as' h) at in
    (With f fs, (a, as', refl, s, all))

tree_at : (ts : List Term) → IsGraph ts → (n : ℕ) → n < length ts → ((j : ℕ) → j < n → (f : Formula) × Stands ts j f) → (f : Formula) × Stands ts n f
tree_at ts g n l before =
    let (t, h) = below_gets ts n l in
    let (fs, all) = trees_of ts t.args n (g.downward n t h) before in
    (Node t.kind t.index fs, (t.args, h, all))

trees_below : (ts : List Term) → IsGraph ts → (n : ℕ) → n ≤ length ts → (i : ℕ) → i < n → (f : Formula) × Stands ts i f
trees_below ts g zero l i h = absurd (omega (arith, h))
trees_below ts g (suc n) l i h =
    let before : (j : ℕ) → j < n → (f : Formula) × Stands ts j f = trees_below ts g n (omega (arith, l)) in
    below_more (λ j. (f : Formula) × Stands ts j f) n before (tree_at ts g n (omega (arith, l)) before) i (omega (arith, h))

pub tree_of : (ts : List Term) → IsGraph ts → (i : ℕ) → i < length ts → (f : Formula) × Stands ts i f
tree_of ts g i h = trees_below ts g (length ts) (omega arith) i h

-- ---- what stood stands at the same place

all_later : (old new : List Term) → Later old new → (ids : List ℕ) (fs : Formulas) → AllStand old ids fs → AllStand new ids fs
all_later old new later ids Stop h = h
all_later old new later ids (With f fs) (a, xs, e, s, all) = (a, xs, e, (later a f (record { tree = s })).tree, all_later old new later xs fs all)

same_lists : (ts : List Term) → IsGraph ts → (as' bs : List ℕ) (fs : Formulas) → AllStand ts as' fs → AllStand ts bs fs → as' ≡ bs
same_lists ts g as' bs Stop p q = p ∙ sym q
same_lists ts g as' bs (With f fs) (a, xs, p, s, all) (b, ys, q, t, also) =
    p ∙ ap (λ z. z ∷ xs) (equal ts a b f g s t) ∙ ap (λ zs. b ∷ zs) (same_lists ts g xs ys fs all also) ∙ sym q

same_place : (old new : List Term) → IsGraph new → Later old new → (i : ℕ) (x : Term) (f : Formula) → slice_get old i ≡ Some x → Stands old i f → Stands new i f → slice_get new i ≡ Some x
same_place old new g later i x (Node k n fs) h (args, p, all) (more, q, also) =
    let same : args ≡ more = same_lists new g args more fs (all_later old new later args fs all) also in
    q ∙ ap (λ xs. Some (term k n xs)) (sym same) ∙ sym p ∙ h

pub later_front : (old new : List Term) → IsGraph old → IsGraph new → Later old new → take (length old) new ≡ old
later_front old new g h later =
    front_of old new (λ i x at.
    let (f, s) = tree_of old g i (slice_get_within old i x at) in
    same_place old new h later i x f at s (later i f (record { tree = s })).tree)

taken_few : {X : Type 0} (n : ℕ) (xs : List X) → length (take n xs) ≤ length xs
taken_few zero xs = omega arith
taken_few (suc n) [] = omega arith
taken_few (suc n) (x ∷ xs) = let h : length (take n xs) ≤ length xs = taken_few n xs in omega (arith, h)

pub later_longer : (old new : List Term) → IsGraph old → IsGraph new → Later old new → length old ≤ length new
later_longer old new g h later =
    let e : length (take (length old) new) ≡ length old = ap length (later_front old new g h later) in
    omega (arith, e, taken_few (length old) new)

-- ---- what is kept

pub has_columns : {code : Code} {l : Language} → IsLanguage code l → HasColumns code.columns l
has_columns is = record { columns = is.columns; holes = is.holes }

pub sorts_later : {l : Language} {old new : List Term} {sorts : List (Option Sort)} → Later old new → HaveSorts l old sorts → HaveSorts l new sorts
sorts_later later s = record { each = λ id sort at. (let h = s.each id sort at in record { formula = h.formula; stands = later id h.formula h.stands; is = h.is }) }

pub completed : {E : Type 0} (code : Code) (old : Space) (sorts : List (Option Sort)) (r : Result (Unit {0}) E) → Completes code.columns old.graph old.sorts sorts r → OnOk r (Sorts code old (record { graph = old.graph; sorts = sorts }))
completed code old sorts (Ok x) c = record { known = λ l is s. c l (has_columns is) s }
completed code old sorts (Err e) c = tt

pub continued : (code : Code) (old : Space) (sorts : List (Option Sort)) → Continues code.columns old.graph old.sorts sorts → Keeps code old (record { graph = old.graph; sorts = sorts })
continued code old sorts c = record { later = λ n f s. s; known = λ l is s. c l (has_columns is) s }

pub keeps_itself : {code : Code} {space : Space} → Keeps code space space
keeps_itself = record { later = λ n f s. s; known = λ l is s. s }

pub keeps_then : {code : Code} {a b c : Space} → Keeps code a b → Keeps code b c → Keeps code a c
keeps_then p q = record { later = λ n f s. q.later n f (p.later n f s); known = λ l is s. q.known l is (p.known l is s) }

pub stays_itself : {code : Code} {space : Space} → StaysSorted code space space
stays_itself = record { sorted = λ l is s. s }

pub stays_then : {code : Code} {a b c : Space} → StaysSorted code a b → StaysSorted code b c → StaysSorted code a c
stays_then p q = record { sorted = λ l is s. q.sorted l is (p.sorted l is s) }

pub stays_by : {code : Code} {a b : Space} → Sorts code a b → StaysSorted code a b
stays_by q = record { sorted = λ l is s. q.known l is s.first }

pub sorts_stay : {code : Code} {a b c : Space} → Sorts code a b → StaysSorted code b c → Sorts code a c
sorts_stay p q = record { known = λ l is s. q.sorted l is (p.known l is s) }

pub sorts_then : {code : Code} {a b c : Space} → Keeps code a b → Sorts code b c → Sorts code a c
sorts_then p q = record { known = λ l is s. q.known l is (p.known l is s) }

-- a graph in which what stood stands, with the same sorts
pub grown : {code : Code} {graph more : List Term} {sorts : List (Option Sort)} → Later graph more → Keeps code (record { graph = graph; sorts = sorts }) (record { graph = more; sorts = sorts })
grown later = record { later = later; known = λ l is s. sorts_later later s }

pub grown_stands : {code : Code} {graph more : List Term} {sorts : List (Option Sort)} → ((n : ℕ) (f : Formula) → Stands graph n f → Stands more n f) → Keeps code (record { graph = graph; sorts = sorts }) (record { graph = more; sorts = sorts })
grown_stands later = grown (λ n f is. record { tree = later n f is.tree })
