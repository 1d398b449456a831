-- Lines of a draft as the definitions have them. Only private functions and types cite this file. Assumes nothing.
use Rattle.line.specs.Says.{says}
use Rattle.book.specs.declared.drafts.Listed.{Listed}
use Rattle.book.specs.Reading.{Entry}

abbrev pub entry_of : Listed → Entry
entry_of l = record { says = says l.line; scope = l.scope }
