use Rattle.book.proofs.Laws as bok
use Rattle.book.proofs.presses_decide_the_book.Goals as goal

pub returns : goal.returns
returns c = record { cause = bok.one_cause; answer = bok.one_answer; reading = bok.one_reading; quiet = bok.quiet }
