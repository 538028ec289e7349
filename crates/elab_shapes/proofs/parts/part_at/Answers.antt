use Rattle.std.proofs.Common.{length, get_or, sym, ap, ◌∙◌, arith}
use Rattle.typed_program.specs.Trees as t
use Rattle.elab_shapes.specs.Parts.{parts}
use Rattle.elab_shapes.specs.Views.{part}
use Rattle.elab_shapes.proofs.Rows.{claims_of, exists_of, claims_only_of}
use Rattle.elab_shapes.proofs.parts.part_at.Goals as goal

pub one_of_claims-requires : goal.one_of_claims-requires
one_of_claims-requires c = let s = c.in-Claims in omega (arith, c.requires, ap (λ (w : t.Spec). length (parts w)) (claims_of c.args.x.now s.x s.xs c.deref-in-Claims.result.now c.deref-in-Claims-2.result.now s.is c.deref-in-Claims.ensures c.deref-in-Claims-2.ensures.value))

pub returns-in-Claims : goal.returns-in-Claims
returns-in-Claims c =
    let s = c.in-Claims in
    c.one_of_claims.ensures ∙ ap (λ (w : t.Spec). get_or (parts w) c.args.i (part c.one_of_claims.result)) (sym (claims_of c.args.x.now s.x s.xs c.deref-in-Claims.result.now c.deref-in-Claims-2.result.now s.is c.deref-in-Claims.ensures c.deref-in-Claims-2.ensures.value))

pub one_of_row-requires : goal.one_of_row-requires
one_of_row-requires c = let s = c.in-Exists in omega (arith, c.requires, ap (λ (w : t.Spec). length (parts w)) (exists_of c.args.x.now s.field-0 s.field-1 s.x s.xs c.deref-in-Exists.result.now c.deref-in-Exists-2.result.now s.is c.deref-in-Exists.ensures c.deref-in-Exists-2.ensures.value))

pub returns-in-Exists : goal.returns-in-Exists
returns-in-Exists c =
    let s = c.in-Exists in
    c.one_of_row.ensures ∙ ap (λ (w : t.Spec). get_or (parts w) c.args.i (part c.one_of_row.result)) (sym (exists_of c.args.x.now s.field-0 s.field-1 s.x s.xs c.deref-in-Exists.result.now c.deref-in-Exists-2.result.now s.is c.deref-in-Exists.ensures c.deref-in-Exists-2.ensures.value))

pub one_of_row-requires-in-ClaimsOnly : goal.one_of_row-requires-in-ClaimsOnly
one_of_row-requires-in-ClaimsOnly c = let s = c.in-ClaimsOnly in omega (arith, c.requires, ap (λ (w : t.Spec). length (parts w)) (claims_only_of c.args.x.now s.field-0 s.x s.xs c.deref-in-ClaimsOnly.result.now c.deref-in-ClaimsOnly-2.result.now s.is c.deref-in-ClaimsOnly.ensures c.deref-in-ClaimsOnly-2.ensures.value))

pub returns-in-ClaimsOnly : goal.returns-in-ClaimsOnly
returns-in-ClaimsOnly c =
    let s = c.in-ClaimsOnly in
    c.one_of_row-in-ClaimsOnly.ensures ∙ ap (λ (w : t.Spec). get_or (parts w) c.args.i (part c.one_of_row-in-ClaimsOnly.result)) (sym (claims_only_of c.args.x.now s.field-0 s.x s.xs c.deref-in-ClaimsOnly.result.now c.deref-in-ClaimsOnly-2.result.now s.is c.deref-in-ClaimsOnly.ensures c.deref-in-ClaimsOnly-2.ensures.value))
