-- What typing a source answers.
use Rattle.std.proofs.Common.{◌≡◌, List, map, Option, Some, None, Result, Ok, Err, IfOk, sym, ap, ◌∙◌}
use Rattle.c_syntax.specs.declared.items.Item.{Item as HeldItem}
use Rattle.c_syntax.specs.declared.items.Tree.{Tree}
use Rattle.c_syntax.specs.declared.token.Span.{Span}
use Rattle.c_syntax.specs.Items.{Item}
use Rattle.c_syntax.specs.Views.{item, items_of}
use Rattle.typing_spec.specs.First.{first_broken}
use Rattle.typing_expressions.specs.declared.violations.Violation.{Violation}
use Rattle.typing_expressions.specs.Views.{broken, maybe_broken}
use Rattle.method.specs.declared.program.Program.{Program}
use Rattle.typed_program.specs.Tables as tables
use Rattle.typed_program.specs.Views as seen
use Rattle.c_types.specs.declared.typing.TypeFault.{TypeFault}
use Rattle.c_types.specs.Typed.{IsTyped}

-- what is found of a tree's items, by another name
found_of : (tree : Tree) (held : List HeldItem) (found : Option Violation) → held ≡ tree.items.items → maybe_broken found ≡ first_broken (map item held) tree.end → first_broken (items_of tree) tree.end ≡ maybe_broken found
found_of tree held found same e = sym (e ∙ ap (λ (xs : List HeldItem). first_broken (map item xs) tree.end) same)

pub none_found : (tree : Tree) (held : List HeldItem) (found : Option Violation) → held ≡ tree.items.items → found ≡ None → maybe_broken found ≡ first_broken (map item held) tree.end → first_broken (items_of tree) tree.end ≡ None
none_found tree held found same is e = found_of tree held found same e ∙ ap maybe_broken is

pub one_found : (tree : Tree) (held : List HeldItem) (found : Option Violation) (b : Violation) → held ≡ tree.items.items → found ≡ Some b → maybe_broken found ≡ first_broken (map item held) tree.end → first_broken (items_of tree) tree.end ≡ Some (broken b)
one_found tree held found b same is e = found_of tree held found same e ∙ ap maybe_broken is

pub typed_of : (items : List Item) (end : Span) (r : Result Program TypeFault) → first_broken items end ≡ None → IfOk r (λ p. seen.program p ≡ tables.program items) → IfOk r (λ p. IsTyped items end (seen.program p))
typed_of items end (Ok p) u h = record { unbroken = u; tables_are = h }
typed_of items end (Err f) u h = h
