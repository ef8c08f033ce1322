-- The forms of replies in texts: the words that each begins with, and what follows these.
use Rattle.std.specs.Prelude.{ℕ, List, [], ◌∷◌, codes, Option, None, Some}
use Rattle.hek_rules.specs.declared.form.ReplyForm.{ReplyForm}
use Rattle.hek_rules.specs.declared.form.ReplyForm.TheVariants as form
use Rattle.hek_rules.specs.declared.form.ReplyOperands.{ReplyOperands}
use Rattle.hek_rules.specs.declared.form.ReplyOperands.TheVariants as operands
use Rattle.hek_rules.specs.Lines.{joined_words}

-- all forms; of two that begin with one word the longer one is first
abbrev pub all_forms : List ReplyForm
all_forms = form.Began ∷ form.Found ∷ form.Absent ∷ form.Rows ∷ form.Done ∷ form.Exists ∷ form.Ready ∷ form.WaitingCommits ∷ form.Waiting ∷ form.Precommitted ∷ form.ReleasedRead ∷ form.ReleasedBucket ∷ form.ReleasedWaiter ∷ form.Nothing ∷ form.Committed ∷ form.Failed ∷ form.StampedBegin ∷ form.StampedEnd ∷ form.Left ∷ form.Over ∷ form.NoCycle ∷ form.Victim ∷ form.Aborted ∷ form.Refused ∷ []

abbrev pub first_word : ReplyForm → List ℕ
first_word form.Began = codes "began"
first_word form.Found = codes "found"
first_word form.Absent = codes "absent"
first_word form.Rows = codes "rows"
first_word form.Done = codes "done"
first_word form.Exists = codes "exists"
first_word form.Ready = codes "ready"
first_word form.Waiting = codes "waiting"
first_word form.WaitingCommits = codes "waiting"
first_word form.Precommitted = codes "precommitted"
first_word form.ReleasedRead = codes "released"
first_word form.ReleasedBucket = codes "released"
first_word form.ReleasedWaiter = codes "released"
first_word form.Nothing = codes "nothing"
first_word form.Committed = codes "committed"
first_word form.Failed = codes "failed"
first_word form.StampedBegin = codes "stamped"
first_word form.StampedEnd = codes "stamped"
first_word form.Left = codes "left"
first_word form.Over = codes "over"
first_word form.NoCycle = codes "no"
first_word form.Victim = codes "victim"
first_word form.Aborted = codes "aborted"
first_word form.Refused = codes "refused"

-- the word after the first, if the form has one
abbrev pub second_word : ReplyForm → Option (List ℕ)
second_word form.WaitingCommits = Some (codes "commits")
second_word form.ReleasedRead = Some (codes "read")
second_word form.ReleasedBucket = Some (codes "bucket")
second_word form.ReleasedWaiter = Some (codes "waiter")
second_word form.StampedBegin = Some (codes "begin")
second_word form.StampedEnd = Some (codes "end")
second_word form.NoCycle = Some (codes "cycle")
second_word other = None

abbrev pub word_or_none : Option (List ℕ) → List (List ℕ)
word_or_none None = []
word_or_none (Some w) = w ∷ []

-- the words that a reply of the form begins with
abbrev pub form_words : ReplyForm → List (List ℕ)
form_words f = first_word f ∷ word_or_none (second_word f)

abbrev pub form_text : ReplyForm → List ℕ
form_text f = joined_words (form_words f)

-- what follows the words
abbrev pub form_operands : ReplyForm → ReplyOperands
form_operands form.Began = operands.Time
form_operands form.Found = operands.Value
form_operands form.Absent = operands.Nothing
form_operands form.Rows = operands.Pairs
form_operands form.Done = operands.Nothing
form_operands form.Exists = operands.Nothing
form_operands form.Ready = operands.Nothing
form_operands form.Waiting = operands.Count
form_operands form.WaitingCommits = operands.Count
form_operands form.Precommitted = operands.Time
form_operands form.ReleasedRead = operands.VersionAndWriter
form_operands form.ReleasedBucket = operands.Bucket
form_operands form.ReleasedWaiter = operands.Txn
form_operands form.Nothing = operands.Nothing
form_operands form.Committed = operands.Nothing
form_operands form.Failed = operands.Nothing
form_operands form.StampedBegin = operands.Version
form_operands form.StampedEnd = operands.Version
form_operands form.Left = operands.Version
form_operands form.Over = operands.Nothing
form_operands form.NoCycle = operands.Nothing
form_operands form.Victim = operands.TxnAndCycle
form_operands form.Aborted = operands.Cause
form_operands form.Refused = operands.Refusal
