-- Wherever a reader stands in a line that is no write, some words end the line, and what it says
-- then is known. For `parse_request`, `parse_write` and the law `request_or_fault`. Where a word
-- is missing `00` is put in for an address, a code or a quantity: so a word is a fault only if no
-- line can have it there.
use Rattle.std.proofs.Common.{◌≡◌, ◌≢◌, ℕ, true, false, Some, List, [], ◌∷◌, ◌++◌, refl, sym, subst, arith}
use Rattle.std.specs.Prelude.{codes}
use Rattle.pmb_line.specs.declared.token.Token.TheVariants as said
use Rattle.pmb_request.specs.declared.verb.Verb.{Verb}
use Rattle.pmb_request.specs.declared.verb.Verb.TheVariants.{Read, Call, Set, Get}
use Rattle.pmb_request.specs.Request.{Command}
use Rattle.pmb_request.specs.Spelling.{Task, to_read, to_call, to_set, to_get, Wording, Ask, Wanted, token, text}
use Rattle.pmb_request.specs.Spelling.{AreWanted, asking, Spells}
use Rattle.pmb_request.specs.Fault.{IsWithin}
use Rattle.pmb_request.specs.machine.Reading.{Partial, nothing, writing, at_address, at_code, at_quantity, behind}
use Rattle.pmb_request.specs.machine.Reading.{ended, command_with, finish, Room}
use Rattle.pmb_request.proofs.Steps.{append-nil, spelled, wanted-append}

-- Words that end a line.
pub record Completes (s : Partial) : Type 0 where
  -- the words
  pub more : List (List ℕ)
  -- what is missing, which they say
  pub missing : List Wanted
  -- the command and the task that the whole line asks for
  pub command : Command
  pub task : Task
  -- the words so far, and the missing ones, are a spelling of that
  pub are : AreWanted missing more
  pub whole : spelled s ++ missing ≡ asking command task
  -- it is not too large if the words so far are not
  pub within : Room s → IsWithin (Ask command task)

-- an address and a code
abbrev zero_zero : List (List ℕ)
zero_zero = codes "00" ∷ codes "00" ∷ []

abbrev byte_zero : Wanted
byte_zero = token (said.Byte 0)

-- after the keyword: address, code, and for `set` a quantity
after_verb : (verb : Verb) → Completes (at_address verb)
-- by the verb: `read`
after_verb Read = record {
  more = zero_zero;
  missing = byte_zero ∷ byte_zero ∷ [];
  command =
      command_with 0 0 false;
  task = to_read;
  are = (refl, (refl, tt));
  whole = refl;
  within = λ room. tt;
}
-- `call`, with no bytes
after_verb Call = record {
  more = zero_zero;
  missing = byte_zero ∷ byte_zero ∷ [];
  command =
      command_with 0 0 false;
  task = to_call [];
  are = (refl, (refl, tt));
  whole = refl;
  within = λ room. omega arith;
}
-- `set`, which wants a quantity
after_verb Set = record {
  more = codes "00" ∷ zero_zero;
  missing = byte_zero ∷ byte_zero ∷ text (codes "00") ∷ [];
  command = command_with 0 0 false;
  task = to_set (codes "00");
  are = (refl, (refl, (refl, tt)));
  whole = refl;
  within = λ room. tt;
}
-- `get`
after_verb Get = record {
  more = zero_zero;
  missing = byte_zero ∷ byte_zero ∷ [];
  command =
      command_with 0 0 false;
  task = to_get;
  are = (refl, (refl, tt));
  whole = refl;
  within = λ room. tt;
}

-- after the address: the code, and for `set` a quantity
after_address : (verb : Verb) (a : ℕ) → Completes (at_code verb a)
-- by the verb, as above
after_address Read a = record {
  more = codes "00" ∷ [];
  missing = byte_zero ∷ [];
  command =
      command_with a 0 false;
  task = to_read;
  are = (refl, tt);
  whole = refl;
  within = λ room. tt;
}
after_address Call a = record {
  more = codes "00" ∷ [];
  missing = byte_zero ∷ [];
  command =
      command_with a 0 false;
  task = to_call [];
  are = (refl, tt);
  whole = refl;
  within = λ room. omega arith;
}
after_address Set a = record {
  more = zero_zero;
  missing = byte_zero ∷ text (codes "00") ∷ [];
  command = command_with a 0 false;
  task = to_set (codes "00");
  are = (refl, (refl, tt));
  whole = refl;
  within = λ room. tt;
}
after_address Get a = record {
  more = codes "00" ∷ [];
  missing = byte_zero ∷ [];
  command =
      command_with a 0 false;
  task = to_get;
  are = (refl, tt);
  whole = refl;
  within = λ room. tt;
}

pub completes : (s : Partial) → s ≢ writing → Completes s
-- before the first word: `get 00 00`
completes nothing other = record {
  more = codes "get" ∷ zero_zero;
  missing = text (codes "get") ∷ byte_zero ∷ byte_zero ∷ [];
  command = command_with 0 0 false;
  task = to_get;
  are = (refl, (refl, (refl, tt)));
  whole = refl;
  within = λ room. tt;
}
completes writing other = absurd (other refl)
completes (at_address verb) other = after_verb verb
completes (at_code verb a) other = after_address verb a
-- after the code of `set`: a quantity
completes (at_quantity a c) other = record {
  more = codes "00" ∷ [];
  missing = text (codes "00") ∷ [];
  command =
      command_with a c false;
  task = to_set (codes "00");
  are = (refl, tt);
  whole = refl;
  within = λ room. tt;
}
-- after the code: the line may end there
completes (behind a c task) other = record {
  more = [];
  missing = [];
  command = command_with a c false;
  task =
      task;
  are = tt;
  whole = refl;
  within = λ room. room;
}
-- after `pec`: it ends there
completes (ended a c task) other = record {
  more = [];
  missing = [];
  command = command_with a c true;
  task = task;
  are =
      tt;
  whole = append-nil (spelled (ended a c task));
  within = λ room. room;
}

-- the words so far, and those that end the line
pub ends : (s : Partial) (front : List (List ℕ)) (c : Completes s) → AreWanted (spelled s) front
    → Spells (front ++ c.more) (Ask c.command c.task)
ends s front c so_far = subst (λ xs. AreWanted xs (front ++ c.more)) c.whole
    (wanted-append (spelled s) c.missing front c.more so_far c.are)

-- What is asked for, where no word is missing.
pub record Finished (s : Partial) (wording : Wording) : Type 0 where
  -- the command and the task that the words ask for
  pub command : Command
  pub task : Task
  pub is : wording ≡ Ask command task
  pub whole : spelled s ≡ asking command task
  pub within : Room s → IsWithin (Ask command task)

pub finished : (s : Partial) (wording : Wording) → finish s ≡ Some wording → Finished s wording
finished (behind a c task) wording is = record {
  command = command_with a c false;
  task = task;
  is = cc is;
  whole = sym (append-nil (spelled (behind a c task)));
  within = λ room. room;
}
finished (ended a c task) wording is = record {
  command = command_with a c true;
  task = task;
  is = cc is;
  whole =
      refl;
  within = λ room. room;
}
finished _ wording is = cc is
