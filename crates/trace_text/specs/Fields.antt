-- The fields of an entry: the value of each that is there.
use Rattle.std.specs.Prelude.{ℕ, List, Option, Some, None, option_map, if◌then◌else◌, codes}
use Rattle.std.specs.Str.{bytes_eq}
use Rattle.serde_json.specs.Data.{Data, null, boolean, number, unsigned, negative, float, string, array, object}
use Rattle.serde_json.specs.Find.{get}
use Rattle.trace_text.specs.declared.fields.Field.{Field}
use Rattle.trace_text.specs.declared.fields.Field.TheVariants as field
use Rattle.trace_text.specs.declared.fields.Fields.{Fields}

abbrev pub data_of : Field → Data
data_of (field.Text s) = string s.now
data_of (field.Number n) = number (unsigned n)
data_of (field.Flag b) = boolean b
data_of field.Other = null

-- what is looked at of a field: a text, a whole number, true or false; all else is alike
abbrev pub plain : Data → Data
plain null = null
plain (boolean b) = boolean b
plain (number (unsigned n)) = number (unsigned n)
plain (number (negative z)) = null
plain (number (float x)) = null
plain (string s) = string s
plain (array ds) = null
plain (object ms) = null

-- what was read of the fields, wherever it lies in memory
pub record FieldData : Type 0 where
  pub name : Option Data
  pub message : Option Data
  pub fault : Option Data
  pub kept : Option Data
  pub queue : Option Data
  pub priority : Option Data
  pub payload : Option Data
  pub origin : Option Data
  pub id : Option Data

abbrev pub no_fields : FieldData
no_fields = record {
  name = None;
  message = None;
  fault = None;
  kept = None;
  queue = None;
  priority = None;
  payload = None;
  origin =
      None;
  id = None;
}

abbrev pub fields_by : Fields → FieldData
fields_by f = record {
  name = option_map data_of f.name;
  message = option_map data_of f.message;
  fault = option_map data_of f.fault;
  kept = option_map data_of f.kept;
  queue = option_map data_of f.queue;
  priority = option_map data_of f.priority;
  payload = option_map data_of f.payload;
  origin = option_map data_of f.origin;
  id = option_map data_of f.id;
}

-- those of a JSON value
abbrev pub fields_in : Data → FieldData
fields_in d = record {
  name = get (codes "do") d;
  message = get (codes "msg") d;
  fault = get (codes "fault") d;
  kept = get (codes "kept") d;
  queue = get (codes "queue") d;
  priority = get (codes "priority") d;
  payload = get (codes "payload") d;
  origin = get (codes "origin") d;
  id = get (codes "id") d;
}

-- what is looked at of each
abbrev pub plain_fields : FieldData → FieldData
plain_fields f = record {
  name = option_map plain f.name;
  message = option_map plain f.message;
  fault = option_map plain f.fault;
  kept = option_map plain f.kept;
  queue = option_map plain f.queue;
  priority = option_map plain f.priority;
  payload = option_map plain f.payload;
  origin = option_map plain f.origin;
  id = option_map plain f.id;
}

-- one more member: of equal keys the last counts, and a key that isn't asked for is passed over
abbrev pub fields_put : FieldData → List ℕ → Data → FieldData
fields_put f key d =
    if bytes_eq key (codes "do") then record f { name = Some d } else
    if bytes_eq key (codes "msg") then record f { message = Some d } else
    if bytes_eq key (codes "fault") then record f { fault = Some d } else
    if bytes_eq key (codes "kept") then record f { kept = Some d } else
    if bytes_eq key (codes "queue") then record f { queue = Some d } else
    if bytes_eq key (codes "priority") then record f { priority = Some d } else
    if bytes_eq key (codes "payload") then record f { payload = Some d } else
    if bytes_eq key (codes "origin") then record f { origin = Some d } else
    if bytes_eq key (codes "id") then record f { id = Some d } else f
