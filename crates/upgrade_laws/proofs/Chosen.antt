-- What holds of every conclusion holds of those that become lemmas.
use Rattle.std.proofs.Common.{ℕ, zero, suc, Bool, true, false, not, ◌&&◌, if◌then◌else◌, List, [], ◌∷◌, ◌++◌, take}
use Rattle.terms.specs.Formula.{Formula}
use Rattle.certificate_upgrade.specs.Conclusions.{Conclusion}
use Rattle.certificate_upgrade.specs.Lemmas.{is_among, trees_of, firsts_among, lemma_conclusions}

abbrev pub Every : (Conclusion → Type 0) → List Conclusion → Type 0
Every P [] = Unit {0}
Every P (c ∷ cs) = P c × Every P cs

module _ (P : Conclusion → Type 0) where
  pub both_every : (cs ds : List Conclusion) → Every P cs → Every P ds → Every P (cs ++ ds)
  both_every [] ds h g = g
  both_every (c ∷ cs) ds h g = (h.0, both_every cs ds h.1 g)

  every_front : (n : ℕ) (cs : List Conclusion) → Every P cs → Every P (take n cs)
  every_front zero cs h = tt
  every_front (suc n) [] h = tt
  every_front (suc n) (c ∷ cs) h = (h.0, every_front n cs h.1)

  every_first : (before : List Formula) (cs : List Conclusion) → Every P cs → Every P (firsts_among before cs)
  every_first before [] h = tt
  every_first before (c ∷ cs) h =
      both_every (if not (is_among c.tree before) && is_among c.tree (trees_of cs) then c ∷ [] else []) (firsts_among (c.tree ∷ before) cs)
      (of_test (not (is_among c.tree before) && is_among c.tree (trees_of cs))) (every_first (c.tree ∷ before) cs h.1)
    where
      of_test : (b : Bool) → Every P (if b then c ∷ [] else [])
      of_test true = (h.0, tt)
      of_test false = tt

  pub every_lemma : (cs : List Conclusion) → Every P cs → Every P (lemma_conclusions cs)
  every_lemma cs h = every_front 20000 (firsts_among [] cs) (every_first [] cs h)
