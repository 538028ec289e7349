-- The first conclusion of each node that has more than one is the first of each tree that at least two conclude.
use Rattle.std.proofs.Common.{◌≡◌, ℕ, zero, suc, ◌==◌, Bool, true, false, not, ◌&&◌, ◌||◌, if◌then◌else◌, List, [], ◌∷◌, ◌++◌, length, take, refl, ap, sym, ◌∙◌, subst, eq-eqb}
use Rattle.std.specs.Borrow.{Bor}
use Rattle.terms.specs.declared.term.Term.{Term}
use Rattle.terms.specs.Formula.{Formula}
use Rattle.term_graph.specs.Graph.{IsGraph}
use Rattle.term_graph.proofs.Stands.{stands_within}
use Rattle.term_meaning.specs.Meaning.{Language}
use Rattle.conditions.specs.Formulas.{same}
use Rattle.condition_formulas.specs.Standing.{StandsAs}
use Rattle.condition_formulas.proofs.Nodes.{same_nodes}
use Rattle.certificate_upgrade.specs.declared.conclusion.Conclusion as held
use Rattle.certificate_upgrade.specs.Conclusions.{Conclusion}
use Rattle.certificate_upgrade.specs.Held.{StandsFor, AllStandFor}
use Rattle.certificate_upgrade.specs.Lemmas.{is_among, trees_of, firsts_among, lemma_conclusions}
use Rattle.upgrade_lemmas.specs.declared.choice.Count.{Count}
use Rattle.upgrade_lemmas.specs.declared.choice.Count.TheVariants.{Zero, One, More}
use Rattle.upgrade_lemmas.specs.Chosen.{referents, is_more, count_at, tally, AreCounts, first_of, without_node, firsts}
use Rattle.upgrade_lemmas.proofs.Lists.{behind_taken}
use Rattle.upgrade_lemmas.proofs.Counting.{taken_at}

-- the tree is at least twice among these
abbrev pub is_repeated : Formula → List Formula → Bool
is_repeated f [] = false
is_repeated f (g ∷ gs) = if same f g then is_among f gs else is_repeated f gs

module _ (l : Language) (ts : List Term) (graph : IsGraph ts) where
  all_more : (id : ℕ) (hs : List held.Conclusion) → is_more (tally More id hs) ≡ true
  all_more id [] = refl
  all_more id (h ∷ hs) = by_test (id == h.tree) (all_more id hs) where
    by_test : (b : Bool) → is_more (tally More id hs) ≡ true → is_more (tally (if b then More else More) id hs) ≡ true
    by_test true rest = rest
    by_test false rest = rest

  -- behind one conclusion of a node there are more exactly where its tree comes again
  again : (id : ℕ) (f : Formula) (hs : List held.Conclusion) (cs : List Conclusion) → StandsAs ts id f → AllStandFor l ts hs cs → is_more (tally One id hs) ≡ is_among f (trees_of cs)
  again id f [] [] s all = refl
  again id f [] (c ∷ cs) s all = absurd all
  again id f (h ∷ hs) [] s all = absurd all
  again id f (h ∷ hs) (c ∷ cs) s all = by_test (id == h.tree) (again id f hs cs s all.1) ∙ ap (λ b. b || is_among f (trees_of cs)) (same_nodes graph s all.0.tree) where
    by_test : (b : Bool) → is_more (tally One id hs) ≡ is_among f (trees_of cs) → is_more (tally (if b then More else One) id hs) ≡ (b || is_among f (trees_of cs))
    by_test true rest = all_more id hs
    by_test false rest = rest

  repeated : (id : ℕ) (f : Formula) (hs : List held.Conclusion) (cs : List Conclusion) → StandsAs ts id f → AllStandFor l ts hs cs → is_more (tally Zero id hs) ≡ is_repeated f (trees_of cs)
  repeated id f [] [] s all = refl
  repeated id f [] (c ∷ cs) s all = absurd all
  repeated id f (h ∷ hs) [] s all = absurd all
  repeated id f (h ∷ hs) (c ∷ cs) s all =
      by_test (id == h.tree) (repeated id f hs cs s all.1) ∙ ap (λ b. if b then is_among f (trees_of cs) else is_repeated f (trees_of cs)) (same_nodes graph s all.0.tree) where
        by_test : (b : Bool) → is_more (tally Zero id hs) ≡ is_repeated f (trees_of cs) → is_more (tally (if b then One else Zero) id hs) ≡ (if b then is_among f (trees_of cs) else is_repeated f (trees_of cs))
        by_test true rest = again id f hs cs s all.1
        by_test false rest = rest

  both_stand : (hs ks : List held.Conclusion) (cs ds : List Conclusion) → AllStandFor l ts hs cs → AllStandFor l ts ks ds → AllStandFor l ts (hs ++ ks) (cs ++ ds)
  both_stand [] ks [] ds p q = q
  both_stand [] ks (c ∷ cs) ds p q = absurd p
  both_stand (h ∷ hs) ks [] ds p q = absurd p
  both_stand (h ∷ hs) ks (c ∷ cs) ds p q = (p.0, both_stand hs ks cs ds p.1 q)

  front_stands : (n : ℕ) (hs : List held.Conclusion) (cs : List Conclusion) → AllStandFor l ts hs cs → AllStandFor l ts (take n hs) (take n cs)
  front_stands zero hs cs p = tt
  front_stands (suc n) [] [] p = tt
  front_stands (suc n) [] (c ∷ cs) p = absurd p
  front_stands (suc n) (h ∷ hs) [] p = absurd p
  front_stands (suc n) (h ∷ hs) (c ∷ cs) p = (p.0, front_stands n hs cs p.1)

  -- the nodes that have more are those whose trees none before has, and two behind
  abbrev AreWanted : List Count → List Formula → List Conclusion → Type 0
  AreWanted counts before cs = (id : ℕ) (f : Formula) → StandsAs ts id f → is_more (count_at counts id) ≡ (not (is_among f before) && is_repeated f (trees_of cs))

  still : (b p q r : Bool) → ((not p && (if b then q else r)) && not b) ≡ (not (b || p) && r)
  still true true q r = refl
  still true false true r = refl
  still true false false r = refl
  still false true q r = refl
  still false false q true = refl
  still false false q false = refl

  wanted_behind : (counts : List Count) (before : List Formula) (h : held.Conclusion) (c : Conclusion) (cs : List Conclusion) → StandsFor l ts h c → AreWanted counts before (c ∷ cs) → AreWanted (without_node counts h) (c.tree ∷ before) cs
  wanted_behind counts before h c cs x wanted = λ id f s.
      taken_at counts h id
      ∙ ((λ k. wanted id f s k && not (same_nodes graph s x.tree k))
      ∙ still (same f c.tree) (is_among f before) (is_among f (trees_of cs)) (is_repeated f (trees_of cs)))

  same_self : (id : ℕ) (f : Formula) → StandsAs ts id f → same f f ≡ true
  same_self id f s = sym (same_nodes graph s s) ∙ eq-eqb id id refl

  firsts_stand : (counts : List Count) (before : List Formula) (hs : List held.Conclusion) (cs : List Conclusion) → AllStandFor l ts hs cs → AreWanted counts before cs → AllStandFor l ts (firsts counts hs) (firsts_among before cs)
  firsts_stand counts before [] [] all wanted = tt
  firsts_stand counts before [] (c ∷ cs) all wanted = absurd all
  firsts_stand counts before (h ∷ hs) [] all wanted = absurd all
  firsts_stand counts before (h ∷ hs) (c ∷ cs) all wanted =
      both_stand (first_of counts h) (firsts (without_node counts h) hs) (if not (is_among c.tree before) && is_among c.tree (trees_of cs) then c ∷ [] else []) (firsts_among (c.tree ∷ before) cs)
      (by_test (is_more (count_at counts h.tree)) (not (is_among c.tree before) && is_among c.tree (trees_of cs)) here)
      (firsts_stand (without_node counts h) (c.tree ∷ before) hs cs all.1 (wanted_behind counts before h c cs all.0 wanted)) where
        here : is_more (count_at counts h.tree) ≡ (not (is_among c.tree before) && is_among c.tree (trees_of cs))
        here =
            wanted h.tree c.tree all.0.tree
            ∙ ap (λ b. not (is_among c.tree before) && (if b then is_among c.tree (trees_of cs) else is_repeated c.tree (trees_of cs))) (same_self h.tree c.tree all.0.tree)

        by_test : (a b : Bool) → a ≡ b → AllStandFor l ts (if a then h ∷ [] else []) (if b then c ∷ [] else [])
        by_test true true e = (all.0, tt)
        by_test true false e = absurd (cc)
        by_test false true e = absurd (cc)
        by_test false false e = tt

  -- of counts of all conclusions the firsts are those that become lemmas
  pub chosen_stand : (counts : List Count) (hs : List held.Conclusion) (cs : List Conclusion) → AreCounts (length ts) hs counts → AllStandFor l ts hs cs → AllStandFor l ts (take 20000 (firsts counts hs)) (lemma_conclusions cs)
  chosen_stand counts hs cs k all =
      front_stands 20000 (firsts counts hs) (firsts_among [] cs)
      (firsts_stand counts [] hs cs all (λ id f s. ap (λ (c : Count). is_more c) (k.each id (stands_within ts id f s.tree)) ∙ repeated id f hs cs s all))

-- what was taken of the counts and kept are the conclusions that become lemmas
pub choice_is : (l : Language) (ts : List Term) → IsGraph ts → (hs list : List held.Conclusion) (cs : List Conclusion) (counts lent : List Count) (chosen kept : List (Bor held.Conclusion)) (nodes : ℕ) → nodes ≡ length ts → list ≡ hs
    → AreCounts nodes list counts → lent ≡ counts → referents chosen ≡ firsts lent list → kept ≡ take 20000 chosen → AllStandFor l ts hs cs → AllStandFor l ts (referents kept) (lemma_conclusions cs)
choice_is l ts graph hs list cs counts lent chosen kept nodes size same counted lends made few all =
    let whole : AreCounts (length ts) hs counts = subst (λ n. AreCounts n hs counts) size (subst (λ (ks : List held.Conclusion). AreCounts nodes ks counts) same counted) in
    let taken_are : referents kept ≡ take 20000 (firsts counts hs) =
    ap referents few ∙ (behind_taken 20000 chosen ∙ ap (λ (ks : List held.Conclusion). take 20000 ks) (made ∙ (λ k. firsts (lends k) (same k)))) in
    subst (λ (ks : List held.Conclusion). AllStandFor l ts ks (lemma_conclusions cs)) (sym taken_are) (chosen_stand l ts graph counts hs cs whole all)
