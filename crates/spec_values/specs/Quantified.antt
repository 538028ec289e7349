-- What a quantifier asks of the members of an owned set, and a list of conjuncts or of objects of a scene, as the values and first overflows of quantified expressions have it (crate method, SpecValue and Overflow). Own.
use Rattle.std.specs.Prelude.{Bool, not, ◌&&◌, ◌||◌, if◌then◌else◌, List, [], ◌∷◌, map, Option, None}
use Rattle.object_types.specs.declared.references.Ref.{Ref}
use Rattle.object_types.specs.declared.values.Value.TheVariants.{Ref as Refers}
use Rattle.object_types.specs.Values.{referent}
use Rattle.object_types.specs.Sets.{every, some}
use Rattle.method.specs.declared.program.DeclaredType.{DeclaredType}
use Rattle.method.specs.declared.program.Program.{Program}
use Rattle.method.specs.declared.program.Spec.{Spec}
use Rattle.method.specs.Tables.{in_type}
use Rattle.method.specs.SpecValue.{Scene, value, holds, bind_ref}
use Rattle.method.specs.Overflow.{Overflow, overflow, list_overflow, or_else, until}

module _ (p : Program) where
  -- each conjunct holds
  abbrev pub each_holds : List Spec → Scene → Bool
  each_holds es s = every (λ e. holds p e s) es

  -- e holds of m, or m isn't of the declared type
  abbrev pub holds_there : DeclaredType → Spec → Scene → Ref → Bool
  holds_there ty e s m = not (in_type ty (Refers m)) || holds p e (bind_ref m s)

  -- the first overflow on the way to that
  abbrev pub overflow_there : DeclaredType → Spec → Scene → Ref → Option Overflow
  overflow_there ty e s m = if in_type ty (Refers m) then overflow p e (bind_ref m s) else None

  -- m is of the declared type, and each conjunct holds of it
  abbrev pub is_met : DeclaredType → List Spec → Scene → Ref → Bool
  is_met ty es s m = in_type ty (Refers m) && each_holds es (bind_ref m s)

  -- the first overflow on the way to that
  abbrev pub met_overflow : DeclaredType → List Spec → Scene → Ref → Option Overflow
  met_overflow ty es s m = if in_type ty (Refers m) then list_overflow p es (bind_ref m s) else None

  -- e holds of each member that is of the declared type
  abbrev pub of_each : DeclaredType → Spec → Scene → List Ref → Bool
  of_each ty e s ms = every (holds_there ty e s) ms

  -- the first overflow on the way to that, which ends at a member of which e doesn't hold
  abbrev pub of_each_overflow : DeclaredType → Spec → Scene → List Ref → Option Overflow
  of_each_overflow ty e s ms = until (overflow_there ty e s) (λ m. in_type ty (Refers m) && not (holds p e (bind_ref m s))) ms

  -- each conjunct holds of some member that is of the declared type
  abbrev pub of_some : DeclaredType → List Spec → Scene → List Ref → Bool
  of_some ty es s ms = some (is_met ty es s) ms

  -- the first overflow on the way to that, which ends at a member of which they hold
  abbrev pub of_some_overflow : DeclaredType → List Spec → Scene → List Ref → Option Overflow
  of_some_overflow ty es s ms = until (met_overflow ty es s) (is_met ty es s) ms

  -- the objects that expressions stand for
  abbrev pub list_referents : List Spec → Scene → List Ref
  list_referents es s = map (λ e. referent (value p e s)) es

  -- the first overflow on the way to all of them
  abbrev pub referents_overflow : List Spec → Scene → Option Overflow
  referents_overflow [] s = None
  referents_overflow (e ∷ es) s = or_else (overflow p e s) (referents_overflow es s)
