use Rattle.records.proofs.Acts.{code-0, code-1, code-2, code-3, code-4, code-5, code-6, code-7, code-8, code-9, code-10, no-code}
use Rattle.records.proofs.CodeTryFromU8.try_from.Goals as goal

pub returns-in-0 : goal.returns-in-0
returns-in-0 c = search code-0

pub returns-in-1 : goal.returns-in-1
returns-in-1 c = search code-1

pub returns-in-2 : goal.returns-in-2
returns-in-2 c = search code-2

pub returns-in-3 : goal.returns-in-3
returns-in-3 c = search code-3

pub returns-in-4 : goal.returns-in-4
returns-in-4 c = search code-4

pub returns-in-5 : goal.returns-in-5
returns-in-5 c = search code-5

pub returns-in-6 : goal.returns-in-6
returns-in-6 c = search code-6

pub returns-in-7 : goal.returns-in-7
returns-in-7 c = search code-7

pub returns-in-8 : goal.returns-in-8
returns-in-8 c = search code-8

pub returns-in-9 : goal.returns-in-9
returns-in-9 c = search code-9

pub returns-in-10 : goal.returns-in-10
returns-in-10 c = search code-10

pub returns-in_default : goal.returns-in_default
returns-in_default c = search no-code
