-- The text of the command `show`.
use Rattle.std.specs.Prelude.{ℕ, List, [], ◌++◌, codes, decimal, length, true, Option, Some, None, if◌then◌else◌, ◌==◌}
use Rattle.std.specs.List.{flat_map}
use Rattle.wire_msg.specs.Envelope.{Envelope}
use Rattle.wire_msg.specs.declared.body.Body.{Body}
use Rattle.wire_msg.specs.declared.body.Body.TheVariants.{Ready, Work, Done}
use Rattle.wire_msg.specs.Kinds.{group_in}
use Rattle.wire_msg.specs.Contents.{messages_in, unfinished_in}
use Rattle.console_text.specs.Ends.{Printout, line, refused, before}
use Rattle.console_text.specs.Words.{work_text}
use Rattle.node_words.specs.Words.{answer_part, ids_text, kind_word, named_part}
use Rattle.invite_console.specs.Lines.{over_hex_lines}

-- what a message says beside its kind and its group
abbrev pub fields_text : Body → List ℕ
fields_text (Ready task) = codes " members " ++ ids_text task.members
fields_text (Work g id work) = codes " " ++ decimal id ++ codes " " ++ work_text work.queue work.payload work.priority
fields_text (Done id) = codes " " ++ decimal id
fields_text body = answer_part body

-- what a message says: its kind, the group that it names, and its other fields
abbrev pub body_text : Body → List ℕ
body_text body = kind_word body ++ named_part (group_in body) ++ fields_text body

abbrev pub message_text : Envelope → List ℕ
message_text m = decimal m.sender ++ codes ">" ++ decimal m.receiver ++ codes " " ++ body_text m.body

-- messages, a line of text for each
abbrev pub shown : List Envelope → List ℕ
shown messages = flat_map (λ m. line (message_text m)) messages

-- how many bytes an unfinished frame has, where it has any
abbrev pub rest_text : ℕ → List ℕ
rest_text rest = if rest == 0 then [] else line (codes "rest " ++ decimal rest)

-- what is printed behind the last message
abbrev pub end_of_show : Option (List ℕ) → Printout
end_of_show None = refused (codes "malformed")
end_of_show (Some rest) = record { text = rest_text (length rest); good = true }

abbrev pub shown_of : List ℕ → Printout
shown_of bytes = before (shown (messages_in bytes)) (end_of_show (unfinished_in bytes))

-- what `show` prints for an input
abbrev pub show_text : List ℕ → Printout
show_text input = over_hex_lines shown_of input
