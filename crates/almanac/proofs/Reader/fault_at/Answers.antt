-- `Reader::fault_at` meets its contract: by the refusal at the end.
use borrow.Author.Rules.{rules}
use Rattle.almanac.proofs.Answers.{fault-length, fault-block}
use Rattle.almanac.proofs.Reader.fault_at.Goals as goal

pub returns-in-Err-BadLength : goal.returns-in-Err-BadLength
returns-in-Err-BadLength c = fault-length _ (cc)

pub returns-in_default : goal.returns-in_default
returns-in_default c = fault-block _ (λ e. search rules)

pub returns-in_default-2 : goal.returns-in_default-2
returns-in_default-2 c = fault-block _ (λ e. cc)
