-- Numbers that make no instance, one list for each part that the other worked rows refuse nothing of. Own.
use Rattle.std.specs.Prelude.{List, [], ◌∷◌, ◌++◌}
use Rattle.axiom_rows.specs.Words.{InstanceName, instance_name}

-- there is no formula 1; a formula's places take what its sorts say, a heap first; what has no parameter takes none; a heap or an integer is no reference
abbrev pub of_formulas_and_types : List InstanceName
of_formulas_and_types =
    instance_name 1 1 (1 ∷ 0 ∷ 3 ∷ 4 ∷ [])
    ∷ instance_name 2 1 (0 ∷ 3 ∷ 0 ∷ [])
    ∷ instance_name 3 1 (3 ∷ [])
    ∷ instance_name 3 2 (0 ∷ [])
    ∷ instance_name 3 3 (9 ∷ [])
    ∷ instance_name 3 4 (6 ∷ [])
    ∷ []

-- a reference is no heap, nor in its place; a parameter is missing, or one is too many; a claim is no struct
abbrev pub of_heaps : List InstanceName
of_heaps =
    instance_name 5 1 (3 ∷ [])
    ∷ instance_name 6 1 (3 ∷ 0 ∷ [])
    ∷ instance_name 6 2 (0 ∷ 8 ∷ [])
    ∷ instance_name 6 3 (0 ∷ [])
    ∷ instance_name 7 1 (0 ∷ 6 ∷ [])
    ∷ instance_name 7 2 (0 ∷ 3 ∷ 3 ∷ [])
    ∷ instance_name 8 1 (0 ∷ 0 ∷ [])
    ∷ instance_name 10 1 (0 ∷ 3 ∷ [])
    ∷ instance_name 13 1 (0 ∷ 3 ∷ 0 ∷ [])
    ∷ instance_name 14 2 (0 ∷ 1 ∷ 3 ∷ 2 ∷ [])
    ∷ []

-- the thread stands first; the column of owned sets takes a second key; 18 has no column; both heaps of a step are heaps
abbrev pub of_rely : List InstanceName
of_rely =
    instance_name 16 1 (0 ∷ 1 ∷ 5 ∷ [])
    ∷ instance_name 17 1 (5 ∷ 0 ∷ 1 ∷ 3 ∷ 3 ∷ [])
    ∷ instance_name 18 1 (5 ∷ 0 ∷ 1 ∷ 3 ∷ 2 ∷ [])
    ∷ instance_name 20 1 (5 ∷ 0 ∷ 3 ∷ 3 ∷ [])
    ∷ []

-- a writes list stands behind its length, is as long, and is of references; column 6 is a volatile field of type 3; an object is missing, or stands in the thread's place
abbrev pub of_frames : List InstanceName
of_frames =
    instance_name 21 1 (5 ∷ 0 ∷ 1 ∷ 2 ∷ 2 ∷ 4 ∷ [])
    ∷ instance_name 21 3 (5 ∷ 0 ∷ 1 ∷ 2 ∷ 1 ∷ 6 ∷ 3 ∷ [])
    ∷ instance_name 21 4 (5 ∷ 0 ∷ 1 ∷ 2 ∷ 0 ∷ 3 ∷ 3 ∷ 6 ∷ [])
    ∷ instance_name 22 1 (5 ∷ 0 ∷ 3 ∷ 2 ∷ [])
    ∷ instance_name 22 2 (0 ∷ 5 ∷ 3 ∷ 2 ∷ 0 ∷ [])
    ∷ instance_name 22 4 (0 ∷ 5 ∷ 3 ∷ 2 ∷ 1 ∷ 0 ∷ [])
    ∷ instance_name 22 5 (0 ∷ 4 ∷ 3 ∷ [])
    ∷ []

-- two heaps, no more and no less; they stand before the object, but in 23f behind it; what it owns is missing; column 6 is volatile
abbrev pub of_steps : List InstanceName
of_steps =
    instance_name 23 1 (0 ∷ [])
    ∷ instance_name 23 2 (0 ∷ 1 ∷ 2 ∷ [])
    ∷ instance_name 23 3 (3 ∷ 0 ∷ 1 ∷ [])
    ∷ instance_name 23 4 (0 ∷ 1 ∷ [])
    ∷ instance_name 23 6 (3 ∷ 0 ∷ 1 ∷ [])
    ∷ instance_name 23 7 (0 ∷ 1 ∷ 3 ∷ 3 ∷ 6 ∷ [])
    ∷ []

-- what opens or closes no object; a heap for the object; a member is missing; the object comes first in 24g
abbrev pub of_changes : List InstanceName
of_changes =
    instance_name 24 2 (12 ∷ 0 ∷ [])
    ∷ instance_name 24 3 (0 ∷ 3 ∷ [])
    ∷ instance_name 24 4 (18 ∷ 3 ∷ [])
    ∷ instance_name 24 6 (0 ∷ 3 ∷ [])
    ∷ instance_name 24 7 (0 ∷ 3 ∷ 4 ∷ 5 ∷ [])
    ∷ []

-- references, a heap and a term without a sort are no integers; a number is missing, or one is too many; what is absent owns and claims references
abbrev pub of_numbers : List InstanceName
of_numbers =
    instance_name 24 9 (6 ∷ 3 ∷ [])
    ∷ instance_name 24 10 (6 ∷ [])
    ∷ instance_name 24 11 (6 ∷ 7 ∷ 7 ∷ [])
    ∷ instance_name 24 12 (19 ∷ 6 ∷ [])
    ∷ instance_name 24 13 (0 ∷ 6 ∷ [])
    ∷ instance_name 28 1 (0 ∷ 3 ∷ 0 ∷ [])
    ∷ instance_name 28 2 (0 ∷ 3 ∷ 4 ∷ 3 ∷ [])
    ∷ instance_name 29 1 (3 ∷ 7 ∷ [])
    ∷ instance_name 29 2 (7 ∷ [])
    ∷ []

abbrev pub refusals : List InstanceName
refusals = of_formulas_and_types ++ of_heaps ++ of_rely ++ of_frames ++ of_steps ++ of_changes ++ of_numbers
