-- The act that a line of a schedule names.
use Rattle.std.specs.Prelude.{ℕ, List, [], ◌∷◌, Option, Some, None, option_map}
use Rattle.schedule.specs.declared.act.Act.{Act}
use Rattle.schedule.specs.declared.act.Act.TheVariants as act
use Rattle.schedule.specs.declared.verb.Verb.{Verb}
use Rattle.schedule.specs.declared.verb.Verb.TheVariants.{Timer, Deliver, Lose, Cut, Mend, Submit, Finish, Arm, Crash, Recover, Compact}
use Rattle.line_words.specs.Words.{number_of}
use Rattle.line_words.specs.Lines.{bytes_of}
use Rattle.schedule.specs.Verbs.{verb_of}
use Rattle.schedule.specs.Fields.{node_of, queue_of, priority_of, payload_of}
use Rattle.job_model.specs.declared.work.Work.{Work}

-- what is made of two or three fields, where all of them can be read
abbrev pub of_two : {A B C : Type 0} → (A → B → C) → Option A → Option B → Option C
of_two make None b = None
of_two make (Some a) b = option_map (make a) b

abbrev pub of_three : {A B C D : Type 0} → (A → B → C → D) → Option A → Option B → Option C → Option D
of_three make None b c = None
of_three make (Some a) b c = of_two (make a) b c

-- the work of these parts
abbrev pub work : ℕ → List ℕ → ℕ → Work
work queue payload priority = record { queue = queue; priority = priority; payload = payload }

-- the work with the queue and the payload of these words, and with this priority
abbrev pub work_of : List ℕ → List ℕ → Option ℕ → Option Work
work_of queue payload priority = of_three work (queue_of queue) (payload_of payload) priority

-- a job that is submitted with this priority, if it is one
abbrev pub submit_act : List ℕ → List ℕ → List ℕ → Option ℕ → Option Act
submit_act node queue payload priority = of_two act.Submit (node_of node) (work_of queue payload priority)

-- a verb with one field
abbrev pub short_act : Verb → List ℕ → Option Act
short_act (Timer timer) node = option_map (λ n. act.Timer n timer) (node_of node)
short_act Deliver number = option_map act.Deliver (number_of number)
short_act Lose number = option_map act.Lose (number_of number)
short_act Crash node = option_map (λ n. act.Crash n []) (node_of node)
short_act Recover node = option_map act.Recover (node_of node)
short_act Compact node = option_map act.Compact (node_of node)
short_act verb field = None

-- a verb with two fields
abbrev pub middle_act : Verb → List ℕ → List ℕ → Option Act
middle_act Cut a b = of_two act.Cut (node_of a) (node_of b)
middle_act Mend a b = of_two act.Mend (node_of a) (node_of b)
middle_act Arm node calls = of_two act.Arm (node_of node) (number_of calls)
middle_act Crash node fill = of_two act.Crash (node_of node) (bytes_of fill)
middle_act verb a b = None

-- a verb with three fields
abbrev pub long_act : Verb → List ℕ → List ℕ → List ℕ → Option Act
long_act Submit node queue payload = submit_act node queue payload (Some 0)
long_act Finish node origin id = of_three act.Finish (node_of node) (node_of origin) (number_of id)
long_act verb a b c = None

-- a verb with four fields: a job that is submitted with a priority
abbrev pub longest_act : Verb → List ℕ → List ℕ → List ℕ → List ℕ → Option Act
longest_act Submit node queue payload priority = submit_act node queue payload (priority_of priority)
longest_act verb a b c d = None

abbrev pub with_verb : {A : Type 0} → (Verb → Option A) → Option Verb → Option A
with_verb read None = None
with_verb read (Some verb) = read verb

-- the act of a verb with these fields
abbrev pub act_with : Verb → List (List ℕ) → Option Act
act_with verb [] = None
act_with verb (a ∷ []) = short_act verb a
act_with verb (a ∷ b ∷ []) = middle_act verb a b
act_with verb (a ∷ b ∷ c ∷ []) = long_act verb a b c
act_with verb (a ∷ b ∷ c ∷ d ∷ []) = longest_act verb a b c d
act_with verb (a ∷ b ∷ c ∷ d ∷ e ∷ rest) = None

-- the act of these words
abbrev pub act_of : List (List ℕ) → Option Act
act_of [] = None
act_of (name ∷ fields) = with_verb (λ verb. act_with verb fields) (verb_of name)
