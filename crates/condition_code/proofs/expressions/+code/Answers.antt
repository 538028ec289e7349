use Rattle.std.proofs.Common.{sym}
use Rattle.condition_formulas.proofs.Symbolics.{symbolic_later}
use Rattle.condition_code.proofs.States.{spot_later, state_later}
use Rattle.condition_code.proofs.Walks.{run_then, run_built, symbolic_run, built_then, from_here}
use Rattle.condition_code.proofs.Codes.{same_code}
use Rattle.condition_code.proofs.expressions.+code.Goals as goal

pub returns-in_ok-value-in-Field : goal.returns-in_ok-value-in-Field
returns-in_ok-value-in-Field t c = λ b s hb hs.
    let p = c.args.a.now.program.now in
    let x = same_code p b s (sym c.deref.ensures) (c.in_ok-v-in-Field.ensures b s hb hs) in
    same_code p b s c.in-Field.is (run_then x (c.in_ok-value-in-Field.ensures b s _ (spot_later x.goes.later hb) (state_later x.goes.later hs) x.gives))

pub returns-in_ok-value-in-Not : goal.returns-in_ok-value-in-Not
returns-in_ok-value-in-Not t c = λ b s hb hs.
    let p = c.args.a.now.program.now in
    let x = same_code p b s (sym c.deref-in-Not.ensures) (c.in_ok-v-in-Not.ensures b s hb hs) in
    same_code p b s c.in-Not.is (run_then x (c.in_ok-value-in-Not.ensures _ x.gives))

pub returns-in_ok-value-in-Negate : goal.returns-in_ok-value-in-Negate
returns-in_ok-value-in-Negate t c = λ b s hb hs.
    let p = c.args.a.now.program.now in
    let x = same_code p b s (sym c.deref-in-Negate.ensures) (c.in_ok-v-in-Negate.ensures b s hb hs) in
    same_code p b s c.in-Negate.is (run_then x (c.in_ok-value-in-Negate.ensures p b _ x.gives))

pub returns-in_ok-value-in-Arithmetic : goal.returns-in_ok-value-in-Arithmetic
returns-in_ok-value-in-Arithmetic t c = λ b s hb hs.
    let p = c.args.a.now.program.now in
    let x = same_code p b s (sym c.deref-in-Arithmetic.ensures) (c.in_ok-v-in-Arithmetic.ensures b s hb hs) in
    let y = same_code p b s (sym c.deref-in-Arithmetic-2.ensures) (c.in_ok-w-in-Arithmetic.ensures b s (spot_later x.goes.later hb) (state_later x.goes.later hs)) in
    same_code p b s c.in-Arithmetic.is (run_then x (run_then y (c.in_ok-value-in-Arithmetic.ensures p b _ _ (symbolic_later y.goes.later x.gives) y.gives)))

pub returns-in_ok-value-in-Compare : goal.returns-in_ok-value-in-Compare
returns-in_ok-value-in-Compare t c = λ b s hb hs.
    let p = c.args.a.now.program.now in
    let x = same_code p b s (sym c.deref-in-Compare.ensures) (c.in_ok-v-in-Compare.ensures b s hb hs) in
    let y = same_code p b s (sym c.deref-in-Compare-2.ensures) (c.in_ok-w-in-Compare.ensures b s (spot_later x.goes.later hb) (state_later x.goes.later hs)) in
    same_code p b s c.in-Compare.is (run_then x (run_then y (c.in_ok-value-in-Compare.ensures _ _ (symbolic_later y.goes.later x.gives) y.gives)))

pub returns-in_ok-value-in-And : goal.returns-in_ok-value-in-And
returns-in_ok-value-in-And t c = λ b s hb hs.
    let p = c.args.a.now.program.now in
    let x = same_code p b s (sym c.deref-in-And.ensures) (c.in_ok-v-in-And.ensures b s hb hs) in
    let test = c.in_ok-passes-in-And.ensures.stands _ x.gives in
    let on = c.in_ok-passes-in-And.ensures.later in
    let y = same_code p b s (sym c.deref-in-And-2.ensures) (c.in_ok-w-in-And.ensures b s (spot_later on (spot_later x.goes.later hb)) (state_later on (state_later x.goes.later hs))) in
    let way = c.in_ok-guard-in-And.ensures _ _ _ _ (y.goes.later _ _ test) (sym c.place-from.ensures) (from_here y.goes) in
    let v = symbolic_later way.later (symbolic_later y.goes.later (symbolic_later on x.gives)) in
    let w = symbolic_later way.later y.gives in
    same_code p b s c.in-And.is (run_then x (run_built on (run_then (symbolic_run w (built_then y.goes.later way)) (c.in_ok-value-in-And.ensures _ _ v w))))

pub returns-in_ok-value-in-Or : goal.returns-in_ok-value-in-Or
returns-in_ok-value-in-Or t c = λ b s hb hs.
    let p = c.args.a.now.program.now in
    let x = same_code p b s (sym c.deref-in-Or.ensures) (c.in_ok-v-in-Or.ensures b s hb hs) in
    let test = c.in_ok-fails-in-Or.ensures.stands _ x.gives in
    let on = c.in_ok-fails-in-Or.ensures.later in
    let y = same_code p b s (sym c.deref-in-Or-2.ensures) (c.in_ok-w-in-Or.ensures b s (spot_later on (spot_later x.goes.later hb)) (state_later on (state_later x.goes.later hs))) in
    let way = c.in_ok-guard-in-Or.ensures _ _ _ _ (y.goes.later _ _ test) (sym c.place-from-in-Or.ensures) (from_here y.goes) in
    let v = symbolic_later way.later (symbolic_later y.goes.later (symbolic_later on x.gives)) in
    let w = symbolic_later way.later y.gives in
    same_code p b s c.in-Or.is (run_then x (run_built on (run_then (symbolic_run w (built_then y.goes.later way)) (c.in_ok-value-in-Or.ensures _ _ v w))))

pub returns-in_ok-value-in-Choose : goal.returns-in_ok-value-in-Choose
returns-in_ok-value-in-Choose t c = λ b s hb hs.
    let p = c.args.a.now.program.now in
    let x = same_code p b s (sym c.deref-in-Choose.ensures) (c.in_ok-u-in-Choose.ensures b s hb hs) in
    let passes = c.in_ok-passes-in-Choose.ensures.stands _ x.gives in
    let on = c.in_ok-passes-in-Choose.ensures.later in
    let u1 = symbolic_later on x.gives in
    let hb1 = spot_later on (spot_later x.goes.later hb) in
    let hs1 = state_later on (state_later x.goes.later hs) in
    let y = same_code p b s (sym c.deref-in-Choose-2.ensures) (c.in_ok-v-in-Choose.ensures b s hb1 hs1) in
    let way = c.in_ok-guard-in-Choose.ensures _ _ _ _ (y.goes.later _ _ passes) (sym c.place-from-in-Choose.ensures) (from_here y.goes) in
    let u2 = symbolic_later way.later (symbolic_later y.goes.later u1) in
    let v2 = symbolic_later way.later y.gives in
    let fails = c.in_ok-fails-in-Choose.ensures.stands _ u2 in
    let off = c.in_ok-fails-in-Choose.ensures.later in
    let hb3 = spot_later off (spot_later way.later (spot_later y.goes.later hb1)) in
    let hs3 = state_later off (state_later way.later (state_later y.goes.later hs1)) in
    let z = same_code p b s (sym c.deref-in-Choose-3.ensures) (c.in_ok-w-in-Choose.ensures b s hb3 hs3) in
    let last = c.in_ok-guard-in-Choose-2.ensures _ _ _ _ (z.goes.later _ _ fails) (sym c.place-behind.ensures) (from_here z.goes) in
    let u = symbolic_later last.later (symbolic_later z.goes.later (symbolic_later off u2)) in
    let v = symbolic_later last.later (symbolic_later z.goes.later (symbolic_later off v2)) in
    let w = symbolic_later last.later z.gives in
    same_code p b s c.in-Choose.is (run_then x (run_built on (run_then (symbolic_run v2 (built_then y.goes.later way)) (run_built off (run_then (symbolic_run w (built_then z.goes.later last)) (c.in_ok-value-in-Choose.ensures _ _ _ u v w))))))

pub returns-in_ok-value-in-Convert : goal.returns-in_ok-value-in-Convert
returns-in_ok-value-in-Convert t c = λ b s hb hs.
    let p = c.args.a.now.program.now in
    let x = same_code p b s (sym c.deref-in-Convert.ensures) (c.in_ok-v-in-Convert.ensures b s hb hs) in
    same_code p b s c.in-Convert.is (run_then x (c.in_ok-value-in-Convert.ensures p b _ x.gives))
