-- Answers, by what the code keeps of them: which byte may follow, whether they are whole, and what
-- they say. For `Answer::begins`, `goes_on`, `take`, `is_whole`, `reply`, `at_alert` and
-- `restart_at_alert`. Only the packet error code of the bytes before the reply is kept
-- (`CountsAlone`): the code over both depends on nothing else of them.
use Rattle.std.proofs.Common.{◌≡◌, ℕ, ◌<◌, ◌↔◌, Bool, true, false, IsTrue, List, [], ◌∷◌, ◌++◌, length, refl, sym, ap}
use Rattle.std.proofs.Common.{subst, ◌∙◌, append_assoc, arith}
use Rattle.pmb_bus.specs.Pec.{pec}
use Rattle.pmb_bus.specs.Address.{read_address, alert_address}
use Rattle.pmb_command.specs.declared.form.Form.{Form}
use Rattle.pmb_command.specs.declared.form.Form.TheVariants.{One}
use Rattle.pmb_command.specs.declared.pec_mode.PecMode.{PecMode}
use Rattle.pmb_command.specs.declared.pec_mode.PecMode.TheVariants.{Optional}
use Rattle.pmb_command.specs.Wire.{IsByte, wire}
use Rattle.pmb_transaction.specs.Body.{checked}
use Rattle.pmb_transaction.specs.Following.{BeginsAnswer, IsAlertAnswer, IsInsideAnswer}
use Rattle.pmb_leg.specs.Reply.{Expected, IsReply, SaysAlert, SaysReply}
use Rattle.pmb_leg.specs.declared.answer.Answer.TheInside.{Inside}
use Rattle.pmb_leg.specs.machine.Answers.{CountsAlone, IsAnswered}
use Rattle.pmb_leg.specs.machine.DataLeft.{after, goes_on, has_code, is_whole, takes, BeginsData, IsInside, Leaves}
use Rattle.pmb_leg.specs.machine.DataLeft.{SpellsSomeData, SpellsData}
use Rattle.pmb_leg.proofs.Lefts.{begins_takes, goes_on_inside, inside, moved_on, room, spells_whole, takes_begins}
use Rattle.pmb_leg.proofs.Lefts.{takes_goes_on, whole_spells}

-- the code over bytes with one code, whichever they are
same_code : (before others : List ℕ) → CountsAlone before → pec others ≡ pec before → (with_pec : Bool) (bytes : List ℕ)
    → checked with_pec others bytes ≡ checked with_pec before bytes
same_code before others alike same false bytes = refl
same_code before others alike same true bytes = ap (λ (b : ℕ). bytes ++ b ∷ []) (alike others bytes same)

-- `before` are the bytes before the reply, which its code covers; `alike`, that their code alone
-- counts; `is`, that it is the one kept
module _ (form : Form) (mode : PecMode) (code : ℕ) (before : List ℕ) (alike : CountsAlone before)
    (is : pec before ≡ code) where
  abbrev expected : Expected
  expected = record { form = form; mode = mode; code = code }

  pub says : (reply : List ℕ) (with_pec : Bool) (bytes : List ℕ) → SpellsData form mode before reply with_pec bytes
      → SaysReply expected reply with_pec bytes
  says reply with_pec bytes spells = record {
    fits = spells.fits;
    mode = spells.allowed;
    before = before;
    code =
        is;
    spelled = spells.spelled;
  }

  pub said : (reply : List ℕ) (with_pec : Bool) (bytes : List ℕ) → SaysReply expected reply with_pec bytes
      → SpellsData form mode before reply with_pec bytes
  said reply with_pec bytes reply_is = record {
    fits = reply_is.fits;
    allowed = reply_is.mode;
    spelled = reply_is.spelled ∙ same_code before reply_is.before alike (reply_is.code ∙ sym is) with_pec
        (wire form reply);
  }

  pub replies : (bytes : List ℕ) → SpellsSomeData form mode before bytes → IsReply expected bytes
  replies bytes (reply, with_pec, spells) = (reply, with_pec, says reply with_pec bytes spells)

  pub replied : (bytes : List ℕ) → IsReply expected bytes → SpellsSomeData form mode before bytes
  replied bytes (reply, with_pec, is_reply) = (reply, with_pec, said reply with_pec bytes is_reply)

  answer_goes_on : (bytes : List ℕ) → IsInside form mode before bytes → IsInsideAnswer (IsReply expected) bytes
  answer_goes_on bytes (all, spells, longer) = (all, replies all spells, longer)

  gone_on : (bytes : List ℕ) → IsInsideAnswer (IsReply expected) bytes → IsInside form mode before bytes
  gone_on bytes (all, reply, longer) = (all, replied all reply, longer)

  answer_begins : (bytes : List ℕ) → BeginsData form mode before bytes → BeginsAnswer (IsReply expected) bytes
  answer_begins bytes (all, rest, spells, split) = (all, rest, replies all spells, split)

  begun_so : (bytes : List ℕ) → BeginsAnswer (IsReply expected) bytes → BeginsData form mode before bytes
  begun_so bytes (all, rest, reply, split) = (all, rest, replied all reply, split)

-- ---- what the code answers

-- What is kept of an answer under way: `is.before` are the bytes before the reply, which its code
-- covers too; `is.alike` says that of these only their code counts, `is.crc` that the code so far
-- is kept, and `is.left` what may follow.
module _ (a : Inside) (is : IsAnswered a) where
  abbrev expects : Expected
  expects = record { form = a.form; mode = a.mode; code = a.code }

  pub tells_goes_on : IsTrue (goes_on a.left) ↔ IsInsideAnswer (IsReply expects) a.bytes.items
  tells_goes_on = (
    λ on. answer_goes_on a.form a.mode a.code is.before is.alike is.code a.bytes.items
        (inside is.before a.form a.mode a.bytes.items a.left is.left on),
    λ within. goes_on_inside is.before a.form a.mode a.bytes.items a.left is.left
        (gone_on a.form a.mode a.code is.before is.alike is.code a.bytes.items within),
  )

  pub tells_begins : (byte : ℕ) → IsByte byte → IsTrue (takes a.left a.crc byte)
      ↔ BeginsAnswer (IsReply expects) (a.bytes.items ++ byte ∷ [])
  tells_begins byte small = (
    λ taken. answer_begins a.form a.mode a.code is.before is.alike is.code (a.bytes.items ++ byte ∷ [])
        (takes_begins is.before a.form a.mode a.bytes.items a.left is.left a.crc byte (sym is.crc) small taken),
    λ begins. begins_takes is.before a.form a.mode a.bytes.items a.left is.left a.crc byte (sym is.crc) small
        (begun_so a.form a.mode a.code is.before is.alike is.code (a.bytes.items ++ byte ∷ []) begins),
  )

  pub tells_whole : IsTrue (is_whole a.left a.mode) ↔ IsReply expects a.bytes.items
  tells_whole = (
    λ done. let w = whole_spells is.before a.form a.mode a.bytes.items a.left is.left done in
        replies a.form a.mode a.code is.before is.alike is.code a.bytes.items (w.0, has_code a.left a.mode, w.1),
    λ reply. spells_whole is.before a.form a.mode a.bytes.items a.left is.left
        (replied a.form a.mode a.code is.before is.alike is.code a.bytes.items reply),
  )

  -- what is kept after one byte more
  pub code_on : (byte next : ℕ) (bytes : List ℕ) → bytes ≡ a.bytes.items ++ byte ∷ []
      → ((covered : List ℕ) → pec covered ≡ a.crc → next ≡ pec (covered ++ byte ∷ []))
      → pec (is.before ++ bytes) ≡ next
  code_on byte next bytes taken goes_on =
      ap (λ (bs : List ℕ). pec (is.before ++ bs)) taken
      ∙ ap pec (sym (append_assoc is.before a.bytes.items (byte ∷ [])))
      ∙ sym (goes_on (is.before ++ a.bytes.items) is.crc)

  pub left_on : (byte : ℕ) (bytes : List ℕ) → IsByte byte → bytes ≡ a.bytes.items ++ byte ∷ []
      → Leaves a.form a.mode is.before bytes (after a.left a.mode a.crc byte)
  left_on byte bytes small taken =
      let P : List ℕ → Type 0 = λ (bs : List ℕ). Leaves a.form a.mode is.before bs (after a.left a.mode a.crc byte) in
      subst P (sym taken) (moved_on is.before a.form a.mode a.bytes.items a.left is.left a.crc byte (sym is.crc) small)

  -- the data of an answer
  pub data_of : IsTrue (is_whole a.left a.mode)
      → (reply : List ℕ) × SpellsData a.form a.mode is.before reply (has_code a.left a.mode) a.bytes.items
  data_of done = whole_spells is.before a.form a.mode a.bytes.items a.left is.left done

  pub says_data : (reply : List ℕ) → SpellsData a.form a.mode is.before reply (has_code a.left a.mode) a.bytes.items
      → SaysReply expects reply (has_code a.left a.mode) a.bytes.items
  says_data reply spells = says a.form a.mode a.code is.before is.alike is.code reply
      (has_code a.left a.mode) a.bytes.items spells

  -- 257: at most a count, 255 bytes of data and a packet error code
  pub has_room : (byte : ℕ) → IsByte byte → BeginsAnswer (IsReply expects) (a.bytes.items ++ byte ∷ [])
      → length a.bytes.items < 257
  has_room byte small begins =
      room is.before a.form a.mode a.bytes.items a.left is.left
      (takes_goes_on is.before a.left a.crc byte ((tells_begins byte small).1 begins))

-- ---- the Alert Response Address

-- the code over the byte that is sent to read there
pub alert_code : (byte code : ℕ) → byte ≡ read_address alert_address → code ≡ pec (byte ∷ [])
    → pec (read_address alert_address ∷ []) ≡ code
alert_code byte code is over = ap (λ (b : ℕ). pec (b ∷ [])) (sym is) ∙ sym over

module _ (code : ℕ) (alike : CountsAlone (read_address alert_address ∷ []))
    (is : pec (read_address alert_address ∷ []) ≡ code) where
  abbrev alert_expects : Expected
  alert_expects = record { form = One; mode = Optional; code = code }

  alert_said : (reply : List ℕ) (with_pec : Bool) (all : List ℕ)
      → SpellsData One Optional (read_address alert_address ∷ []) reply with_pec all → SaysAlert reply with_pec all
  alert_said [] with_pec all spells = absurd (omega (arith, spells.fits.taken))
  alert_said (byte ∷ []) with_pec all spells =
      record { byte = byte; small = spells.fits.small.0; only = refl; spelled = spells.spelled }
  alert_said (byte ∷ next ∷ reply) with_pec all spells = absurd (omega (arith, spells.fits.taken))

  alert_spells : (reply : List ℕ) (with_pec : Bool) (all : List ℕ) → SaysAlert reply with_pec all
      → SpellsData One Optional (read_address alert_address ∷ []) reply with_pec all
  alert_spells reply with_pec all alert =
      let P : List ℕ → Type 0 = λ (bs : List ℕ). SpellsData One Optional (read_address alert_address ∷ []) bs with_pec
      all in
      subst P (sym alert.only) (record {
        fits = record { small = (alert.small, tt); taken = refl };
        allowed =
            tt;
        spelled = alert.spelled;
      })

  pub alert_says : (reply : List ℕ) (with_pec : Bool) (all : List ℕ) → SaysReply alert_expects reply with_pec all
      ↔ SaysAlert reply with_pec all
  alert_says reply with_pec all = (
    λ reply_is. alert_said reply with_pec all
        (said One Optional code (read_address alert_address ∷ []) alike is reply with_pec all reply_is),
    λ alert. says One Optional code (read_address alert_address ∷ []) alike is reply with_pec all
        (alert_spells reply with_pec all alert),
  )

  alert_answers : (all : List ℕ) → IsReply alert_expects all → IsAlertAnswer all
  alert_answers all (reply, with_pec, reply_is) =
      let alert : SaysAlert reply with_pec all = (alert_says reply with_pec all).0 reply_is in
      record { byte = alert.byte; small = alert.small; with_pec = with_pec; spelled = alert.spelled }

  alert_replies : (all : List ℕ) → IsAlertAnswer all → IsReply alert_expects all
  alert_replies all answer = (
    answer.byte ∷ [],
    answer.with_pec,
    (alert_says (answer.byte ∷ []) answer.with_pec all).1
        (record { byte = answer.byte; small = answer.small; only = refl; spelled = answer.spelled }),
  )

  pub alert_is_answered : (all : List ℕ) → IsReply alert_expects all ↔ IsAlertAnswer all
  alert_is_answered all = (alert_answers all, alert_replies all)
