mod Leads
mod Offers
