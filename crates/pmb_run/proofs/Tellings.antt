-- What a host tells of the end of its request is one text. For the laws `one_running` and
-- `ended_lines_come_first`. A reply is told as its bytes, or as what the one word that two bytes
-- are is worth; a refusal by the leg and the byte, which the transaction says.
use Rattle.std.proofs.Common.{◌≡◌, ◌/◌, ◌%◌, ℕ, Bool, true, false, Option, Some, List, sym, ap, ◌∙◌, arith}
use Rattle.pmb_transaction.specs.Transaction.{PartData, TransactionData, Write, Read, Call, Refused, Alert, NoAlert}
use Rattle.pmb_value.specs.declared.number_format.NumberFormat.{NumberFormat}
use Rattle.pmb_host.specs.declared.step.HostStep.{HostStep}
use Rattle.pmb_host.specs.declared.step.HostStep.TheVariants.{Done}
use Rattle.pmb_host.specs.declared.step.Reply.{Reply}
use Rattle.pmb_value.specs.WordFault.{value_in}
use Rattle.pmb_host.specs.Steps.{ReplyData, reply_data, told_word}
use Rattle.pmb_host.specs.Task.{word_bytes}
use Rattle.pmb_exchange.specs.Exchange.{EndsWith, IsReplyTold, RefusedAt, bytes, value}
use Rattle.pmb_run.specs.Answer.{end_text, reply_text}

-- two bytes are one word
same_word : (a b : ℕ) → word_bytes a ≡ word_bytes b → a ≡ b
same_word a b same =
    let low : a % 256 ≡ b % 256 = cc same in
    let high : a / 256 ≡ b / 256 = cc same in
    omega arith

-- what is told of a reply
one_told : (number : Option NumberFormat) (reply : List ℕ) (a b : ReplyData) → IsReplyTold number reply a
    → IsReplyTold number reply b → a ≡ b
one_told number reply a b (bytes none is) (bytes also told) = is ∙ sym told
one_told number reply a b (bytes none is) (value format word some reply_is told) = absurd (cc (none, some))
one_told number reply a b (value format word some reply_is is) (bytes none told) = absurd (cc (none, some))
one_told number reply a b (value format word some reply_is is) (value other again also other_is told) =
    let formats : Some format ≡ Some other = sym some ∙ also in
    let format_is : format ≡ other = cc formats in
    let word_is : word ≡ again = same_word word again (sym reply_is ∙ other_is) in
    is ∙ ap (λ (it : NumberFormat). told_word (value_in it word)) format_is
    ∙ ap (λ (w : ℕ). told_word (value_in other w)) word_is ∙ sym told

-- the text of a reply
done_text : (step : HostStep) (reply : Reply) → step ≡ Done reply → end_text step ≡ reply_text (reply_data reply)
done_text step reply is = ap end_text is

-- where a byte was refused
one_refusal : (parts : List PartData) (sent : List ℕ) (at_read : Bool) (a b : HostStep) → RefusedAt parts sent at_read a
    → RefusedAt parts sent at_read b → a ≡ b
one_refusal parts sent true a b one other = one ∙ sym other
one_refusal parts sent false a b one other = one ∙ sym other

pub one_end : (number : Option NumberFormat) (t : TransactionData) (a b : HostStep) → EndsWith number t a
    → EndsWith number t b → end_text a ≡ end_text b
one_end number (Write parts) a b (reply, is, all) (other, also, every) =
    done_text a reply is ∙ ap reply_text (all ∙ sym every) ∙ sym (done_text b other also)
one_end number (Read t) a b (reply, is, told) (other, also, telling) =
    done_text a reply is ∙ ap reply_text (one_told number t.reply (reply_data reply) (reply_data other) told telling)
    ∙ sym (done_text b other also)
one_end number (Call t) a b (reply, is, told) (other, also, telling) =
    done_text a reply is ∙ ap reply_text (one_told number t.reply (reply_data reply) (reply_data other) told telling)
    ∙ sym (done_text b other also)
one_end number (Refused t) a b one other = ap end_text (one_refusal t.parts t.sent t.at_read a b one other)
one_end number (Alert t) a b one other = absurd one
one_end number NoAlert a b one other = absurd one
