-- References that nothing has used. Own.
use Rattle.std.specs.Prelude.{Bool, ◌&&◌}
use Rattle.object_types.specs.References.{null, same_ref}
use Rattle.object_types.specs.Values.{is_zero_int}
use Rattle.object_types.specs.Heap.{Record, is_absent}

-- no mode, no owner, no claim
abbrev pub no_status : Record → Bool
no_status r = is_absent r.mode && (same_ref r.owner null && is_zero_int r.count)
