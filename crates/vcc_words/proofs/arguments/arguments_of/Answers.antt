use Rattle.std.proofs.Common.{inl, inr, sym, ◌∙◌}
use Rattle.vcc_words.proofs.arguments.arguments_of.Goals as goal

pub returns-in_err-source : goal.returns-in_err-source
returns-in_err-source c = rw c.from_residual.ensures (inl (sym c.in_err-source.ensures))

pub returns-in_err-cert : goal.returns-in_err-cert
returns-in_err-cert c = rw c.from_residual-in_err-cert.ensures (inr (sym c.in_err-cert.ensures))

pub returns : goal.returns
returns c =
    (sym c.in_ok-source.ensures, sym c.in_ok-cert.ensures, sym (c.bytes_of-leaves.ensures ∙ c.get_str-leaves_text.ensures), sym (c.bytes_of-rounds.ensures ∙ c.get_str-rounds_text.ensures))
