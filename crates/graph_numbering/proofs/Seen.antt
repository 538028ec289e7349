-- The numbers that places show.
use Rattle.std.proofs.Common.{◌≡◌, ℕ, zero, suc, ◌<◌, ◌≤◌, List, [], ◌∷◌, ◌++◌, length, take, replicate, map, All, None, Some, cond, eq-eqb, refl, ap, ◌∙◌, arith}
use Rattle.std.proofs.lemmas.Bool.{ne_eqb}
use Rattle.std.proofs.lemmas.List.{take_all}
use Rattle.std.proofs.lemmas.List.Elements.{All-head, All-tail, All-replicate}
use Rattle.graph_numbering.specs.declared.places.Place.{Place}
use Rattle.graph_numbering.specs.Places.{seen, place_of}

-- places of earlier walks show nothing
pub seen_none : (places : List Place) (now walk v : ℕ) → All (λ (c : Place). c.walk ≤ walk) places → walk < now → place_of (map (seen now) places) v ≡ None
seen_none [] now walk v h l = refl
seen_none (c ∷ cs) now walk zero h l =
    let first : c.walk ≤ walk = All-head (λ (c : Place). c.walk ≤ walk) c cs h in
    ap (λ b. cond b (Some c.number) None) (ne_eqb c.walk now (λ e. omega (arith, e, l, first)))
seen_none (c ∷ cs) now walk (suc v) h l = seen_none cs now walk v (All-tail (λ (c : Place). c.walk ≤ walk) c cs h) l

-- nor do new ones
grown : (places more : List Place) (walk v : ℕ) → All (λ (c : Place). c.walk ≤ 0) more → 0 < walk → place_of (map (seen walk) (places ++ more)) v ≡ place_of (map (seen walk) places) v
grown [] more walk v h l = seen_none more walk 0 v h l
grown (c ∷ cs) more walk zero h l = refl
grown (c ∷ cs) more walk (suc v) h l = grown cs more walk v h l

pub seen_grown : (places : List Place) (place : Place) (walk nodes count v : ℕ) → length places ≤ nodes → place.walk ≡ 0 → 0 < walk → place_of (map (seen walk) (take nodes places ++ replicate count place)) v ≡ place_of (map (seen walk) places) v
seen_grown places place walk nodes count v n e l =
    ap (λ xs. place_of (map (seen walk) (xs ++ replicate count place)) v) (take_all nodes places n)
    ∙ grown places (replicate count place) walk v (All-replicate (λ (c : Place). c.walk ≤ 0) count place (omega (arith, e))) l

pub seen_own : (place : Place) (walk : ℕ) → place.walk ≡ walk → seen walk place ≡ Some place.number
seen_own place walk e = ap (λ b. cond b (Some place.number) None) (eq-eqb place.walk walk e)
