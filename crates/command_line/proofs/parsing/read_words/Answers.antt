use Rattle.std.proofs.Common.{map, string_bytes, sym}
use Rattle.clap.specs.Words.{app_of, kind_of}
use Rattle.command_line.proofs.Parsed.{named, not_taken}
use Rattle.command_line.proofs.parsing.read_words.Goals as goal

pub returns-in-Some : goal.returns-in-Some
returns-in-Some g c =
    named (app_of c.args.command) (map string_bytes c.args.words.now) c.in-Some.name.now c.in-Some.arguments.now _ _ c.asked_or_told.result
    (record {
      matches = c.in-Ok.matches;
      read = c.in-Ok.ensures.matches;
      named = sym c.in-Some.ensures.name;
      rows =
          sym c.in-Some.ensures.rows;
    }) c.asked_or_told.ensures

pub returns-in-Err : goal.returns-in-Err
returns-in-Err g c =
    not_taken (app_of c.args.command) (map string_bytes c.args.words.now) _ _ (kind_of c.in-Err.error) c.unread.result
    c.in-Err.ensures.passes
    c.unread.ensures.memory c.unread.ensures.told
