-- What an entry says rests on what is looked at of its fields.
use Rattle.std.proofs.Common.{◌≡◌, ℕ, Bool, List, Option, Some, None, option_map, option_and_then, codes, refl, sym, ap, ap₂, ◌∙◌}
use Rattle.std.specs.Prelude.{if◌then◌else◌}
use Rattle.std.specs.Str.{bytes_eq}
use Rattle.serde_json.specs.Data.{Data, number, unsigned}
use Rattle.serde_json.specs.Find.{as_str, as_bool}
use Rattle.node_core.specs.declared.event.Event.{Event}
use Rattle.trace_check.specs.declared.trace.TraceAction.{TraceAction}
use Rattle.trace_check.specs.declared.trace.TraceAction.TheVariants as action
use Rattle.trace_text.specs.Fields.{FieldData, plain, plain_fields}
use Rattle.trace_text.specs.Entries.{message_in, spelled_in, number_in, priority_in, submit_in, finish_in, deliver_in, event_in, device_in}
use Rattle.trace_text.specs.Entries.{done_in, recovered_in, recover_in, action_named, action_in}

pub plain_text : (d : Data) → as_str (plain d) ≡ as_str d
plain_text (number (unsigned n)) = refl
plain_text _ = refl

pub plain_number : (d : Data) → number_in (Some (plain d)) ≡ number_in (Some d)
plain_number (number (unsigned n)) = refl
plain_number _ = refl

plain_flag : (d : Data) → as_bool (plain d) ≡ as_bool d
plain_flag (number (unsigned n)) = refl
plain_flag _ = refl

pub plain_message : (d x : Data) → plain d ≡ x → message_in (Some d) ≡ message_in (Some x)
plain_message d x is = ap (option_and_then spelled_in) (sym (plain_text d) ∙ ap as_str is)

text_same : (o : Option Data) → option_and_then as_str (option_map plain o) ≡ option_and_then as_str o
text_same None = refl
text_same (Some d) = plain_text d

number_same : (o : Option Data) → number_in (option_map plain o) ≡ number_in o
number_same None = refl
number_same (Some d) = plain_number d

priority_same : (o : Option Data) → priority_in (option_map plain o) ≡ priority_in o
priority_same None = refl
priority_same (Some d) = rw (plain_number d) refl

device_same : (o : Option Data) → device_in (option_map plain o) ≡ device_in o
device_same None = refl
device_same (Some d) = rw (plain_text d) refl

recovered_same : (kept : Bool) (o : Option Data) → recovered_in kept (option_map plain o) ≡ recovered_in kept o
recovered_same kept None = refl
recovered_same kept (Some d) = rw (plain_text d) refl

module _ (f : FieldData) where
  kept_same : (o : Option Data) → option_and_then (λ (kept : Bool). recovered_in kept (option_map plain f.fault))
      (option_and_then as_bool (option_map plain o)) ≡ option_and_then (λ (kept : Bool). recovered_in kept f.fault)
      (option_and_then as_bool o)
  kept_same None = refl
  kept_same (Some d) = ap (option_and_then (λ (kept : Bool). recovered_in kept (option_map plain f.fault))) (plain_flag d)
      ∙ each (as_bool d)
    where
      each : (b : Option Bool) → option_and_then (λ (kept : Bool). recovered_in kept (option_map plain f.fault)) b
          ≡ option_and_then (λ (kept : Bool). recovered_in kept f.fault) b
      each None = refl
      each (Some kept) = recovered_same kept f.fault

  recover_same : recover_in (plain_fields f) ≡ recover_in f
  recover_same = kept_same f.kept

  deliver_same : deliver_in (plain_fields f) ≡ deliver_in f
  deliver_same = rw (text_same f.message) refl

  submit_same : submit_in (plain_fields f) ≡ submit_in f
  submit_same = rw (number_same f.queue, priority_same f.priority, text_same f.payload) refl

  finish_same : finish_in (plain_fields f) ≡ finish_in f
  finish_same = rw (number_same f.origin, number_same f.id) refl

  event_same : (name : List ℕ) → event_in (plain_fields f) name ≡ event_in f name
  event_same name = rw (deliver_same, submit_same, finish_same) refl

  abbrev named : Option TraceAction → Option Event → Option Bool → List ℕ → Option TraceAction
  named recovery event device name =
      if bytes_eq name (codes "none") then Some action.Nothing else
      if bytes_eq name (codes "crash") then Some action.Crashed else
      if bytes_eq name (codes "recover") then recovery else option_and_then (λ (e : Event).
      option_map (λ (failed : Bool). done_in e failed) device) event

  named_same : (name : List ℕ) → action_named (plain_fields f) name ≡ action_named f name
  named_same name =
      ap (λ (o : Option TraceAction). named o (event_in (plain_fields f) name) (device_in (option_map plain f.fault)) name) recover_same
      ∙ ap₂ (λ (o : Option Event) (b : Option Bool). named (recover_in f) o b name) (event_same name) (device_same f.fault)

  pub action_same : action_in (plain_fields f) ≡ action_in f
  action_same = ap (option_and_then (action_named (plain_fields f))) (text_same f.name) ∙ each (option_and_then as_str f.name)
    where
      each : (o : Option (List ℕ)) → option_and_then (action_named (plain_fields f)) o ≡ option_and_then (action_named f) o
      each None = refl
      each (Some name) = named_same name
