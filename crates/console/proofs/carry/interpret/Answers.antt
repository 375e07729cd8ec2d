-- A line is carried out by its command, or refused.
use Rattle.std.proofs.Common.{◌≤◌, [], ◌∷◌, ◌++◌, length, refl, ap, ◌∙◌, arith, rules}
use Rattle.std.proofs.lemmas.List.{length-take}
use Rattle.commands.specs.Lines.{string_of}
use Rattle.console.specs.Replies.{line_bits, printed, bits_by, text_by, after, shown, line_feed}
use Rattle.commands.proofs.Bounds.{parsed_within}
use Rattle.console.proofs.StringLaws.{few_pairs, string_decoded}
use Rattle.console.proofs.carry.interpret.Goals as goal

pub execute-requires : goal.execute-requires
execute-requires g c =
    let line = c.args.line.now in
    let short : length line ≤ 130 = search rules in
    (simp length-take (omega (arith, few_pairs line _ c.min.result c.min.ensures refl short)), parsed_within line c.in-Ok.command c.in-Ok.ensures)

pub returns-in-Ok : goal.returns-in-Ok
unfolding line_bits printed
returns-in-Ok g c =
    let s = g.E.Engine.bits c.args.duplex.now.engine in
    let line = c.args.line.now in
    let short : length line ≤ 130 = search rules in
    let text = string_decoded line _ c.min.result c.min.ensures refl short _ c.decode_by.new.out refl c.decode_by.ensures in
    record {
      moved = c.execute.ensures.moved ∙ ap (after s c.in-Ok.command) text ∙ ap (bits_by s (string_of line)) c.in-Ok.ensures;
      reply = c.execute.ensures.reply ∙ ap (λ t. shown s c.in-Ok.command t ++ line_feed ∷ []) text ∙ ap (λ r. text_by s (string_of line) c.args.number r ++ line_feed ∷ []) c.in-Ok.ensures;
    }

pub returns-in-Err : goal.returns-in-Err
unfolding line_bits printed
returns-in-Err g c =
    let s = g.E.Engine.bits c.args.duplex.now.engine in
    let line = c.args.line.now in
    record {
      moved = ap (bits_by s (string_of line)) c.in-Err.ensures;
      reply = c.refusal_line.ensures ∙ ap (λ r. text_by s (string_of line) c.args.number r ++ line_feed ∷ []) c.in-Err.ensures;
    }
