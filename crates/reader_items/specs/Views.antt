-- What the values that are read stand for.
use Rattle.std.specs.Prelude.{List, map}
use Rattle.std.proofs.Common.{Vec}
use Rattle.std.specs.declared.alloc.Global.{Global}
use Rattle.c_syntax.specs.declared.token.Span.{Span}
use Rattle.c_syntax.specs.declared.tree.Attribute.{Attribute}
use Rattle.c_syntax.specs.declared.items.FieldDeclaration.{FieldDeclaration}
use Rattle.c_syntax.specs.declared.items.Member.{Member}
use Rattle.c_syntax.specs.declared.items.Parameter.{Parameter}
use Rattle.c_syntax.specs.Expressions.{Id}
use Rattle.c_syntax.specs.Items as i
use Rattle.c_syntax.specs.Items.{Param, StructTree}
use Rattle.c_syntax.specs.Views.{exp, written, parameter, field, member}
use Rattle.reader_items.specs.declared.clauses.Promise.{Promise}
use Rattle.reader_items.specs.declared.clauses.Promise.TheVariants as p
use Rattle.reader_items.specs.declared.members.Annotated.{Annotated}
use Rattle.reader_items.specs.declared.members.Annotated.TheVariants as a

-- what stands behind `_(` of a clause, as what it makes of the place of that sign
abbrev pub promise : Promise → Span → i.Clause
promise (p.Condition x e) o = i.Holds o x (exp e)
promise (p.Writes xs) o = i.Writes o (map written xs.items)

-- a parameter, as what it makes of the two signs in front
abbrev pub behind_signs : Parameter → Span → Span → Param
behind_signs x gh o = parameter x

-- a ghost field, as what it makes of the place in front
abbrev pub ghost_field : FieldDeclaration → Span → i.Member
ghost_field x o = i.Field (field x)

-- what stands behind `_(` of a member, as what it makes of the place of that sign
abbrev pub annotated : Annotated → Span → i.Member
annotated (a.Invariant x) o = i.Invariant (record { place = o; property = exp x })
annotated (a.Field x) o = i.Field (field x)

-- the members of a struct, as what they make of its name, its place and its attributes
abbrev pub struct_tail : Vec Member Global → Id → Span → List Attribute → StructTree
struct_tail v n o as' = record { attributes = as'; place = o; name = n; members = map member v.items }
