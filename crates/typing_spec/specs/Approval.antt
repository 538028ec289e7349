-- Rule 25: owner approval.
use Rattle.std.specs.Prelude.{not, List, [], ◌∷◌, flat_map}
use Rattle.c_syntax.specs.declared.token.Span.{Span}
use Rattle.c_syntax.specs.Expressions as e
use Rattle.c_syntax.specs.Expressions.{Exp}
use Rattle.c_syntax.specs.Items as i
use Rattle.c_syntax.specs.Items.{Member, StructTree}
use Rattle.typing_spec.specs.Declarations.{find_field}
use Rattle.typing_spec.specs.GhostCode.{field_is}
use Rattle.typing_spec.specs.Pieces.{Piece, Struct, Expression}
use Rattle.typing_spec.specs.Places.{place_if}

-- an approval, brackets apart, of something else than a volatile field of the struct
abbrev pub misapproved : StructTree → Exp → List Span
misapproved s (e.Group p x) = misapproved s x
misapproved s (e.Approves p x) = place_if (not (field_is (λ f. f.is_volatile) (find_field s x))) p
misapproved s _ = []

abbrev pub member_misapproved : StructTree → Member → List Span
member_misapproved s (i.Field f) = []
member_misapproved s (i.Invariant x) = misapproved s x.property

-- Rule 25: `\approves` stands other than as the whole of an invariant of a type, or its name isn't that of a volatile field of this type, at the word. Own; the word is of the VCC manual.
abbrev pub approval_form : Piece → List Span
approval_form (Struct items s) = flat_map (member_misapproved s) s.members
approval_form (Expression c (e.Approves p x)) = p ∷ []
approval_form _ = []
