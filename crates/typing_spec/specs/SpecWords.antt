-- Rules 15 and 17 to 19: where the words of specs may stand.
use Rattle.std.specs.Prelude.{Bool, true, false, not, ◌&&◌, ◌||◌, List, [], ◌∷◌, is_some}
use Rattle.c_syntax.specs.declared.token.Span.{Span}
use Rattle.c_syntax.specs.declared.tree.Constant.TheVariants as constants
use Rattle.c_syntax.specs.declared.tree.Status.TheVariants as statuses
use Rattle.c_syntax.specs.declared.tree.SpecFunction.{SpecFunction}
use Rattle.c_syntax.specs.declared.tree.SpecFunction.TheVariants as f
use Rattle.c_syntax.specs.declared.tree.ListWord.{ListWord}
use Rattle.c_syntax.specs.declared.tree.ListWord.TheVariants as lists
use Rattle.c_syntax.specs.Expressions as e
use Rattle.c_syntax.specs.Expressions.{Exp}
use Rattle.typing_spec.specs.Contexts.{Text, TypeInvariant, Requires, Ensures, Maintains, Writes, ClaimProperty, InProperty, Outside, Context}
use Rattle.typing_spec.specs.Pieces.{Piece, Expression}
use Rattle.typing_spec.specs.Places.{place_if, places_if}

abbrev pub is_type_invariant : Text → Bool
is_type_invariant TypeInvariant = true
is_type_invariant _ = false

-- `\wrapped`, `\wrapped0`, `\mutable`, `\fresh`
abbrev pub is_status : SpecFunction → Bool
is_status f.Old = false
is_status f.Unchanged = false
is_status _ = true

-- `\closed`, `\owner` and the like, at the word
abbrev pub status_words : Exp → List Span
status_words (e.State p x q statuses.Closed) = q ∷ []
status_words (e.State p x q statuses.Owner) = q ∷ []
status_words (e.Apply p h x) = place_if (is_status h) p
status_words _ = []

abbrev pub state_words : Exp → List Span
state_words (e.Word p constants.Me) = p ∷ []
state_words (e.Word p constants.Result) = p ∷ []
state_words x = status_words x

-- Rule 15: a type's invariant reads `\closed`, `\owner`, `\wrapped`, `\wrapped0`, `\mutable`, `\fresh`, `\me` or `\result`, at the word. VCC manual: an invariant is about the object's own data.
abbrev pub invariant_reads : Piece → List Span
invariant_reads (Expression c x) = places_if (is_type_invariant c.text) (state_words x)
invariant_reads _ = []

abbrev pub is_property : InProperty → Bool
is_property Outside = false
is_property _ = true

-- texts that are about one moment alone, with no earlier one to compare with
abbrev pub is_of_one_moment : Text → Bool
is_of_one_moment Requires = true
is_of_one_moment Maintains = true
is_of_one_moment Writes = true
is_of_one_moment ClaimProperty = true
is_of_one_moment _ = false

abbrev pub lacks_earlier : Context → Bool
lacks_earlier c = is_of_one_moment c.text || is_property c.property

abbrev pub old_is_misplaced : SpecFunction → Context → Bool
old_is_misplaced f.Old c = lacks_earlier c || c.in_old
old_is_misplaced f.Unchanged c = lacks_earlier c
old_is_misplaced f.Fresh c = lacks_earlier c
old_is_misplaced _ c = false

-- Rule 17: `\old`, `\unchanged` or `\fresh` in requires, maintains, writes, a claim's property or the second argument of `\claims`, or `\old` inside `\old`, at the word. VCC manual.
abbrev pub old_place : Piece → List Span
old_place (Expression c (e.Apply p h x)) = place_if (old_is_misplaced h c) p
old_place _ = []

abbrev pub is_ensures : Text → Bool
is_ensures Ensures = true
is_ensures _ = false

-- Rule 18: `\result` other than in an ensures clause of a function with a value, at the word. VCC manual.
abbrev pub result_place : Piece → List Span
result_place (Expression c (e.Word p constants.Result)) = place_if (not (is_ensures c.text && is_some c.value)) p
result_place _ = []

abbrev pub is_mine : ListWord → Bool
is_mine lists.Mine = true
is_mine lists.ClaimsOnly = false

-- Rule 19: `\this` or `\mine` outside a type's invariant, at the word. VCC manual.
abbrev pub this_place : Piece → List Span
this_place (Expression c (e.Word p constants.This)) = place_if (not (is_type_invariant c.text)) p
this_place (Expression c (e.Several p w xs)) = place_if (is_mine w && not (is_type_invariant c.text)) p
this_place _ = []
