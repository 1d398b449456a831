-- What the reader's state stands for. Only private functions cite this file. Assumes nothing.
--
--   state   the draft and the scopes awaited, as the state of the check
use Rattle.stack.specs.Items.{items}
use Rattle.book.specs.declared.place.Gathering.{Gathering}
use Rattle.book.specs.Drafts.{state_of}
use Rattle.book.specs.Reading.{State}

abbrev pub state : Gathering → State
state g = state_of g.draft (items g.awaited)
