-- Where reading begins, and begins anew.
use Rattle.std.specs.Prelude.{ℕ, ◌+◌, Option, List, [], ◌∷◌, ◌++◌, length}
use Rattle.pmb_json_objects.specs.Counts.{CountsData, nothing_counted}
use Rattle.pmb_scan.specs.Reached.{Reached}
use Rattle.pmb_unknown_start.specs.Past.{PastData, Dropped}
use Rattle.pmb_fact_stream.specs.Lost.{lost_in}
use Rattle.pmb_fact_stream.specs.Spans.{after_open, after_spans, past_in}

-- What was read before, how many events that were, what went before, and the counts. What went before are
-- the transactions, the lines that were dropped, and what was lost at refusals.
pub record Before : Type 0 where
  pub read : List ℕ
  pub n : ℕ
  pub past : List PastData
  pub counts : CountsData

-- at first nothing was read
abbrev pub at_first : Before
at_first = record { read = []; n = 0; past = []; counts = nothing_counted }

-- bytes more
abbrev pub with_bytes : Before → List ℕ → Before
with_bytes b bytes = record b { read = b.read ++ bytes }

-- the line that ends there was dropped
abbrev pub drop_line : Before → Before
drop_line b = record b { past = b.past ++ Dropped ∷ [] }

-- What went before, of what a scan has reached: its transactions, and what was lost so far at its refusals.
abbrev pub past_of : Reached → List PastData
past_of reached = past_in (lost_in reached.profile 0 reached.events) reached.spans

-- what a scan has reached that began there, where these addresses are ignored
abbrev pub with_reached : Option (List ℕ) → Before → Reached → Before
with_reached ignored b reached = record {
  read = b.read ++ reached.text;
  n = b.n + length reached.events;
  past = b.past ++ past_of reached;
  counts = after_open ignored (after_spans ignored b.counts reached.spans) reached.standing;
}
