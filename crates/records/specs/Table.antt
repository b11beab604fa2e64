-- How the program's table says the rows.
use Rattle.records.specs.Rows.{Row}
use Rattle.records.specs.declared.table.Record.{Record}

-- the row that a record of the table says
abbrev pub row_of : Record → Row
row_of r = record { name = r.name.now; form = r.form; width = r.width; since = r.since; initial = r.initial }
