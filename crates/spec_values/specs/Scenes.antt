-- What the words of an expression refer to, as the code has it. Own.
use Rattle.std.specs.Prelude.{if◌then◌else◌, List, [], ◌∷◌, ◌++◌, drop, length}
use Rattle.object_types.specs.declared.references.Ref.{Ref}
use Rattle.object_types.specs.Lookups.{heap_of}
use Rattle.method.specs.SpecValue.{Scene}
use Rattle.spec_values.specs.declared.place.Bound.{Bound, Free, Within'}
use Rattle.spec_values.specs.declared.place.Place.{Place}

-- the members that quantifiers around are at, innermost first
abbrev pub members_of : Bound → List Ref
members_of Free = []
members_of (Within' r p b) = r ∷ members_of b

-- the scene at a place within an expression
abbrev pub scene_at : Place → Scene
scene_at at =
    record {
      before = heap_of at.before.now;
      after = heap_of at.after.now;
      me = at.thread;
      this = at.this;
      locals = (if at.is_old then at.entry.now ++ drop (length at.entry.now) at.locals.now else at.locals.now);
      entry = at.entry.now;
      result = at.result;
      bound = members_of at.bound.now;
      subject = at.subject;
    }
