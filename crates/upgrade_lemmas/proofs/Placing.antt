-- The table of places while it is filled, and what it says of trees.
use Rattle.std.proofs.Common.{◌≡◌, ℕ, zero, suc, ◌+◌, ◌<◌, ◌≤◌, ◌==◌, Bool, true, false, if◌then◌else◌, List, [], ◌∷◌, length, drop, get_or, replicate, Option, Some, None, option_map, refl, ap, sym, ◌∙◌, subst, arith}
use Rattle.std.specs.Prelude.{slice_set}
use Rattle.std.specs.Borrow.{Bor}
use Rattle.std.proofs.lemmas.List.{length-set}
use Rattle.std.proofs.lemmas.Bool.{eqb-true, eqb-false}
use Rattle.terms.specs.declared.term.Term.{Term}
use Rattle.terms.specs.Formula.{Formula}
use Rattle.term_graph.specs.Graph.{IsGraph}
use Rattle.term_graph.proofs.Stands.{stands_within}
use Rattle.term_meaning.specs.Meaning.{Language}
use Rattle.condition_formulas.specs.Standing.{StandsAs}
use Rattle.condition_formulas.proofs.Nodes.{same_nodes}
use Rattle.certificate_upgrade.specs.declared.conclusion.Conclusion as held
use Rattle.certificate_upgrade.specs.Conclusions.{Conclusion}
use Rattle.certificate_upgrade.specs.Held.{AllStandFor}
use Rattle.certificate_upgrade.specs.Lemmas.{trees_of, lemma_conclusions, lemmas_over}
use Rattle.certificate_upgrade.specs.Upgrade.{place_of}
use Rattle.upgrade_lemmas.specs.declared.lemmas.Lemmas.{Lemmas}
use Rattle.upgrade_lemmas.specs.Made.{place_at, AreMade}
use Rattle.upgrade_lemmas.specs.Chosen.{referents, place_from, put_place, with_place}
use Rattle.upgrade_lemmas.proofs.Lists.{drop_next, drop_end, behind_at, behind_length}

-- the place that is there, or else the other
abbrev pub or_later : Option ℕ → Option ℕ → Option ℕ
or_later None o = o
or_later (Some p) o = Some p

pub record Placing (nodes : ℕ) (cs : List held.Conclusion) (places : List (Option ℕ)) (i : ℕ) : Type 0 where
  pub long : length places ≡ nodes
  pub left : (id : ℕ) → id < nodes → or_later (place_at places id) (place_from i id (drop i cs)) ≡ place_from 0 id cs

none_placed : (n id : ℕ) → place_at (replicate n None) id ≡ None
none_placed zero id = refl
none_placed (suc n) zero = refl
none_placed (suc n) (suc id) = none_placed n id

replicate_long : (n : ℕ) → length (let none : List (Option ℕ) = replicate n None in none) ≡ n
replicate_long zero = refl
replicate_long (suc n) = ap suc (replicate_long n)

pub placing_first : (nodes : ℕ) (cs : List held.Conclusion) (places : List (Option ℕ)) → places ≡ replicate nodes None → Placing nodes cs places 0
placing_first nodes cs places e = record {
  long = ap length e ∙ replicate_long nodes;
  left = λ id h. ap (λ (xs : List (Option ℕ)). or_later (place_at xs id) (place_from 0 id cs)) e ∙ ap (λ (o : Option ℕ). or_later o (place_from 0 id cs)) (none_placed nodes id);
}

set_here : (places : List (Option ℕ)) (id p : ℕ) → id < length places → place_at (slice_set places id (Some p)) id ≡ Some p
set_here [] id p h = absurd (omega arith)
set_here (o ∷ places) zero p h = refl
set_here (o ∷ places) (suc id) p h = set_here places id p (omega arith)

set_there : (places : List (Option ℕ)) (node id p : ℕ) → (id ≡ node → ⊥) → place_at (slice_set places node (Some p)) id ≡ place_at places id
set_there [] node id p h = refl
set_there (o ∷ places) zero zero p h = absurd (h refl)
set_there (o ∷ places) zero (suc id) p h = refl
set_there (o ∷ places) (suc node) zero p h = refl
set_there (o ∷ places) (suc node) (suc id) p h = set_there places node id p (λ e. h (ap suc e))

-- what stands at a node behind one more conclusion
placed_at : (places : List (Option ℕ)) (node i id : ℕ) (rest : Option ℕ) → id < length places → (o : Option ℕ) → place_at places node ≡ o → (b : Bool) → (id == node) ≡ b
    → or_later (place_at (put_place o places node i) id) rest ≡ or_later (place_at places id) (if b then Some i else rest)
placed_at places node i id rest h None q true e =
    let same : id ≡ node = eqb-true id node e in
    let there : place_at places id ≡ None = ap (λ n. place_at places n) same ∙ q in
    ap (λ (o : Option ℕ). or_later o rest) (subst (λ n. place_at (slice_set places n (Some i)) id ≡ Some i) same (set_here places id i h)) ∙ sym (ap (λ (o : Option ℕ). or_later o (Some i)) there)
placed_at places node i id rest h None q false e = ap (λ (o : Option ℕ). or_later o rest) (set_there places node id i (eqb-false id node e))
placed_at places node i id rest h (Some p) q true e =
    let there : place_at places id ≡ Some p = ap (λ n. place_at places n) (eqb-true id node e) ∙ q in
    ap (λ (o : Option ℕ). or_later o rest) there ∙ sym (ap (λ (o : Option ℕ). or_later o (Some i)) there)
placed_at places node i id rest h (Some p) q false e = refl

placed_long : (o : Option ℕ) (places : List (Option ℕ)) (node i : ℕ) → length (put_place o places node i) ≡ length places
placed_long None places node i = length-set places node (Some i)
placed_long (Some p) places node i = refl

pub placing_next : (nodes : ℕ) (cs : List held.Conclusion) (places next : List (Option ℕ)) (i : ℕ) (c : held.Conclusion) → Placing nodes cs places i → i < length cs → c ≡ get_or cs i c → next ≡ with_place places c.tree i → Placing nodes cs next (i + 1)
placing_next nodes cs places next i c turn below at e = record {
  long = ap length e ∙ (placed_long (place_at places c.tree) places c.tree i ∙ turn.long);
  left = λ id h.
      ap (λ (xs : List (Option ℕ)). or_later (place_at xs id) (place_from (i + 1) id (drop (i + 1) cs))) e
      ∙ (ap (λ n. or_later (place_at (with_place places c.tree i) id) (place_from n id (drop (i + 1) cs))) (let n : i + 1 ≡ suc i = omega arith in n)
      ∙ (placed_at places c.tree i id (place_from (suc i) id (drop (i + 1) cs)) (let same : length places ≡ nodes = turn.long in omega arith) (place_at places c.tree) refl (id == c.tree) refl
      ∙ (sym (ap (λ (ds : List held.Conclusion). or_later (place_at places id) (place_from i id ds)) (drop_next cs i c below at)) ∙ turn.left id h)));
}

alone : (o : Option ℕ) → or_later o None ≡ o
alone None = refl
alone (Some p) = refl

pub placing_last : (nodes : ℕ) (cs : List held.Conclusion) (places : List (Option ℕ)) (i : ℕ) → Placing nodes cs places i → length cs ≤ i → (id : ℕ) → id < nodes → place_at places id ≡ place_from 0 id cs
placing_last nodes cs places i turn end id h =
    sym (alone (place_at places id)) ∙ (sym (ap (λ (ds : List held.Conclusion). or_later (place_at places id) (place_from i id ds)) (drop_end cs i end)) ∙ turn.left id h)

-- the same for conclusions behind references
pub placing_more : (nodes : ℕ) (bs : List (Bor held.Conclusion)) (places next : List (Option ℕ)) (i : ℕ) (b : Bor held.Conclusion) → Placing nodes (referents bs) places i → i < length bs → b ≡ get_or bs i b
    → next ≡ with_place places b.now.tree i → Placing nodes (referents bs) next (i + 1)
placing_more nodes bs places next i b turn below at e =
    placing_next nodes (referents bs) places next i b.now turn (let long : length (referents bs) ≡ length bs = behind_length bs in omega arith) (behind_at bs i b below at) e

pub placing_end : (nodes : ℕ) (bs : List (Bor held.Conclusion)) (places : List (Option ℕ)) (i : ℕ) → Placing nodes (referents bs) places i → length bs ≤ i → (id : ℕ) → id < nodes → place_at places id ≡ place_from 0 id (referents bs)
placing_end nodes bs places i turn end = placing_last nodes (referents bs) places i turn (let long : length (referents bs) ≡ length bs = behind_length bs in omega arith)

-- ---- places of trees

module _ (l : Language) (ts : List Term) (graph : IsGraph ts) where
  shifted : (n : ℕ) (o : Option ℕ) → option_map (λ m. suc n + m) o ≡ option_map (λ m. n + m) (option_map (λ m. suc m) o)
  shifted n None = refl
  shifted n (Some m) = let e : suc n + m ≡ n + suc m = omega arith in ap Some e

  place_is : (n id : ℕ) (f : Formula) (hs : List held.Conclusion) (cs : List Conclusion) → StandsAs ts id f → AllStandFor l ts hs cs → place_from n id hs ≡ option_map (λ m. n + m) (place_of f (trees_of cs))
  place_is n id f [] [] s all = refl
  place_is n id f [] (c ∷ cs) s all = absurd all
  place_is n id f (h ∷ hs) [] s all = absurd all
  place_is n id f (h ∷ hs) (c ∷ cs) s all =
      by_test (id == h.tree) (place_is (suc n) id f hs cs s all.1) ∙ ap (λ b. option_map (λ m. n + m) (if b then Some 0 else option_map (λ m. suc m) (place_of f (trees_of cs)))) (same_nodes graph s all.0.tree) where
        by_test : (b : Bool) → place_from (suc n) id hs ≡ option_map (λ m. suc n + m) (place_of f (trees_of cs)) → (if b then Some n else place_from (suc n) id hs) ≡ option_map (λ m. n + m) (if b then Some 0 else option_map (λ m. suc m) (place_of f (trees_of cs)))
        by_test true rest = let e : n ≡ n + 0 = omega arith in ap Some e
        by_test false rest = rest ∙ shifted n (place_of f (trees_of cs))

  unshifted : (o : Option ℕ) → option_map (λ m. 0 + m) o ≡ o
  unshifted None = refl
  unshifted (Some m) = let e : 0 + m ≡ m = omega arith in ap Some e

  -- the first place of a node is that of its tree
  pub place_of_tree : (id : ℕ) (f : Formula) (hs : List held.Conclusion) (cs : List Conclusion) → StandsAs ts id f → AllStandFor l ts hs cs → place_from 0 id hs ≡ place_of f (trees_of cs)
  place_of_tree id f hs cs s all = place_is 0 id f hs cs s all ∙ unshifted (place_of f (trees_of cs))

  -- what is made of the conclusions that become lemmas
  pub made_is : (hs : List held.Conclusion) (cs : List Conclusion) (made : Lemmas) (nodes : ℕ) → AllStandFor l ts hs (lemma_conclusions cs) → nodes ≡ length ts → made.list.items ≡ lemmas_over l [] (lemma_conclusions cs)
      → ((id : ℕ) → id < nodes → place_at made.places.items id ≡ place_from 0 id hs) → AreMade l ts cs made
  made_is hs cs made nodes all size list places = record {
    list = list;
    places = λ id f s. places id (let within : id < length ts = stands_within ts id f s.tree in omega arith) ∙ place_of_tree id f hs (lemma_conclusions cs) s all;
  }
