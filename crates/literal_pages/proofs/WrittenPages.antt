-- What an accepted page reaches can be written: its parts are literal, and stay so.
use Rattle.written_pages.specs.Writing.{PagesCanBeWritten}
use Rattle.literal_pages.specs.Literal.{AcceptedPagesAreLiteral}
use Rattle.literal_pages.specs.Written.{AcceptedPagesAreWritten, ReadPagesAreWritten, running}
use Rattle.literal_pages.proofs.ReadEvents.{read_events_are_literal}

pub accepted_pages_are_written : AcceptedPagesAreLiteral → PagesCanBeWritten → AcceptedPagesAreWritten
accepted_pages_are_written literal written bytes page events is short fit =
    let parts = literal bytes page is short in
    written (running page) events parts.0 parts.1 fit

pub read_pages_are_written : AcceptedPagesAreLiteral → PagesCanBeWritten → ReadPagesAreWritten
read_pages_are_written literal written bytes file page events is short read small =
    accepted_pages_are_written literal written bytes page events is short (read_events_are_literal file events read small)
