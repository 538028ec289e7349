use Rattle.std.proofs.Common.{length, refl, ap, arith}
use Rattle.typed_program.specs.Trees as t
use Rattle.elab_shapes.specs.Parts.{parts}
use Rattle.elab_shapes.proofs.Rows.{claims_of, exists_of, claims_only_of}
use Rattle.elab_shapes.proofs.ByParts.{plain_length, conjuncts_length}
use Rattle.elab_shapes.proofs.parts.count.Goals as goal

pub returns-in-Claims : goal.returns-in-Claims
returns-in-Claims c = let s = c.in-Claims in omega (arith, ap (λ (w : t.Spec). length (parts w)) (claims_of c.args.x.now s.field-0 s.xs _ _ s.is refl refl), conjuncts_length s.xs.items, c.len.ensures, s.xs.ok.0)

pub returns-in-Exists : goal.returns-in-Exists
returns-in-Exists c = let s = c.in-Exists in omega (arith, ap (λ (w : t.Spec). length (parts w)) (exists_of c.args.x.now s.field-0 s.field-1 s.field-2 s.xs _ _ s.is refl refl), plain_length s.xs.items, c.len-in-Exists.ensures, s.xs.ok.0)

pub returns-in-ClaimsOnly : goal.returns-in-ClaimsOnly
returns-in-ClaimsOnly c = let s = c.in-ClaimsOnly in omega (arith, ap (λ (w : t.Spec). length (parts w)) (claims_only_of c.args.x.now s.field-0 s.field-1 s.xs _ _ s.is refl refl), plain_length s.xs.items, c.len-in-ClaimsOnly.ensures, s.xs.ok.0)
