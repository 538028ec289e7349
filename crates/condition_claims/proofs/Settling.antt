-- What stood, stands: of settings, places and drafts.
use Rattle.std.specs.Prelude.{List}
use Rattle.terms.specs.declared.term.Term.{Term}
use Rattle.terms.specs.Formula.{Formula}
use Rattle.conditions.specs.Actions as spec
use Rattle.condition_formulas.specs.Standing.{Later}
use Rattle.condition_formulas.proofs.Rows.{all_later}
use Rattle.condition_stores.specs.declared.place.Place.{Place}
use Rattle.condition_stores.specs.declared.place.Place.TheVariants as code
use Rattle.condition_stores.specs.Places.{IsPlace, SamePlace}
use Rattle.condition_claims.specs.declared.admissible.Setting.{Setting}
use Rattle.condition_claims.specs.declared.claims.Draft.{Draft}
use Rattle.condition_claims.specs.Settings.{IsSetting}
use Rattle.condition_claims.specs.Drafts.{IsDraft}

pub setting_later : {old new : List Term} {c : Setting} → Later old new → IsSetting old c → IsSetting new c
setting_later later h = record { object_is = later _ _ h.object_is; before_is = later _ _ h.before_is; after_is = later _ _ h.after_is }

same_place_later : (old new : List Term) (c : Place) (q : spec.Place) → Later old new → SamePlace old c q → SamePlace new c q
same_place_later old new (code.Local i) (spec.InLocal j) later h = h
same_place_later old new (code.Local i) (spec.InField x g) later h = absurd h
same_place_later old new (code.Field o f) (spec.InLocal j) later h = absurd h
same_place_later old new (code.Field o f) (spec.InField x g) later h = (later _ _ h.0, h.1)

pub place_later : {old new : List Term} {c : Place} {q : spec.Place} → Later old new → IsPlace old c q → IsPlace new c q
place_later {old} {new} {c} {q} later h = record { is = same_place_later old new c q later h.is }

pub draft_later : {old new : List Term} {d : Draft} {c : Formula} {os : List Formula} {q : spec.Place} {h : Formula} → Later old new → IsDraft old d c os q h → IsDraft new d c os q h
draft_later later is = record { claim_is = later _ _ is.claim_is; objects_are = all_later later is.objects_are; place_is = place_later later is.place_is; heap_is = later _ _ is.heap_is }
