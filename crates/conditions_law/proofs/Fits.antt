-- What names the members of a type's fixed owned set has formulas.
use Rattle.std.proofs.Common.{◌≡◌, ℕ, ◌-◌, nat_le, if◌then◌else◌, Bool, true, false, Some, None, Option, slice_get, refl}
use Rattle.method.specs.declared.program.StructInfo.{StructInfo}
use Rattle.method.specs.declared.program.Program.{Program}
use Rattle.method.specs.Tables.{struct_of}
use Rattle.condition_meaning.specs.Annotated.{members_fit}
use Rattle.condition_meaning.proofs.Faithful.{at_every}
use Rattle.action_conditions.proofs.Annotations.{SetFits}
use Rattle.conditions_law.specs.Texts.{TextFits}

pub sets_there : (p : Program) → TextFits p → (ty : ℕ) → SetFits p (struct_of p ty)
sets_there p t ty = formulas_from (nat_le 3 ty)
  where
    by_struct : (o : Option StructInfo) → slice_get p.structs.items (ty - 3) ≡ o → SetFits p o
    by_struct None h = tt
    by_struct (Some s) h = (at_every (members_fit p) p.structs.items t.members (ty - 3) s h, t.members_numbered (ty - 3) s h)

    formulas_from : (b : Bool) → SetFits p (if b then slice_get p.structs.items (ty - 3) else None)
    formulas_from true = by_struct (slice_get p.structs.items (ty - 3)) refl
    formulas_from false = tt
