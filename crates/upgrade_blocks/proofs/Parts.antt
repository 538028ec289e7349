-- The parameters of a part in a table that is seen through references.
use Rattle.std.specs.Prelude.{◌≡◌, ℕ, ℤ, zero, suc, List, map, option_map, [], Option, Some, None, option_and_then}
use Rattle.std.proofs.Common.{refl, sym, ap, ◌∙◌, Bor}
use Rattle.std.proofs.lemmas.Option.{slice_get-map}
use Rattle.axiom_instances.specs.Axioms.{item_at}
use Rattle.axiom_steps.specs.Steps.{natural}
use Rattle.axiom_parameters.specs.Parameters as p
use Rattle.upgrade_blocks.specs.declared.parameters.Parameter.{Parameter}
use Rattle.upgrade_blocks.specs.Parameters.{seen, part_in, IsPart}

item_map : {X Y : Type 0} (f : X → Y) (xs : List X) (n : ℕ) → item_at (map f xs) n ≡ option_map f (item_at xs n)
item_map f xs zero = refl
item_map f xs (suc n) = slice_get-map f xs n

abbrev pub parameters_in : Bor (List Parameter) → List p.Parameter
parameters_in ps = map seen ps.now

abbrev pub parts_in : Bor (List (Bor (List Parameter))) → List (List p.Parameter)
parts_in parts = map parameters_in parts.now

-- the part in the table, by what stands there
part_by : (xs : List (Bor (List (Bor (List Parameter))))) (n part : ℕ) (o : Option (Bor (List (Bor (List Parameter))))) → o ≡ item_at xs n → part_in (map parts_in xs) n part ≡ p.or_none (option_and_then (λ parts. item_at parts part) (option_map parts_in o))
part_by xs n part o e = ap (λ (it : Option (List (List p.Parameter))). p.or_none (option_and_then (λ parts. item_at parts part) it)) (item_map parts_in xs n ∙ ap (option_map parts_in) (sym e))

pub no_axiom : (xs : List (Bor (List (Bor (List Parameter))))) (n part : ℤ) → None ≡ item_at xs (natural n) → IsPart (map parts_in xs) n part []
no_axiom xs n part none = record { is = sym (part_by xs (natural n) (natural part) None none) }

pub no_part : (xs : List (Bor (List (Bor (List Parameter))))) (n part : ℤ) (ps : Bor (List (Bor (List Parameter)))) → Some ps ≡ item_at xs (natural n) → None ≡ item_at ps.now (natural part) → IsPart (map parts_in xs) n part []
no_part xs n part ps some none =
    record { is = sym (part_by xs (natural n) (natural part) (Some ps) some ∙ ap p.or_none (item_map parameters_in ps.now (natural part) ∙ ap (option_map parameters_in) (sym none))) }

pub the_part : (xs : List (Bor (List (Bor (List Parameter))))) (n part : ℤ) (ps : Bor (List (Bor (List Parameter)))) (found : Bor (List Parameter)) → Some ps ≡ item_at xs (natural n) → Some found ≡ item_at ps.now (natural part) → IsPart (map parts_in xs) n part (map seen found.now)
the_part xs n part ps found some here =
    record { is = sym (part_by xs (natural n) (natural part) (Some ps) some ∙ ap p.or_none (item_map parameters_in ps.now (natural part) ∙ ap (option_map parameters_in) (sym here))) }
